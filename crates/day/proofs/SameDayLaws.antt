-- A case and the case with the entries past its counts zero have the same rules and the same profit. Assumes nothing.
use mathlib.Core.Path.{◌≡◌, refl, ap, ◌∙◌}
use mathlib.Core.Bool.{Bool, true, false, ◌&&◌, cond}
use mathlib.Core.List.{List, [], ◌∷◌}
use Prim.Native.Nat.{ℕ, zero, suc, ◌+◌, ◌*◌, ◌-◌, ◌≤◌}
use native.Mathlib.Omega.{arith}
use borrow.Author.Tests.{leb-true, ltb-true}
use lib.Dec.{leb, ltb, eqb}
use Rattle.cases.specs.declared.Case.{Case}
use Rattle.cases.specs.Symbols.{bit, UD, DD, PD, last}
use Rattle.cases.specs.Symbols.{h}
use Rattle.day.specs.Marks.{p, v, y, y_back, starting, closes, z}
use Rattle.day.specs.Constraints.{stopping, start_output, stop_output, stops_within}
use Rattle.day.specs.Constraints.{rule1, rule2, rule3, rule4, rule5, rule6, rule7, rule8, rule9, rule10}
use Rattle.day.specs.Constraints.{rule11, rule12}
use Rattle.day.specs.Rules.{hours_since, rule21, rule22, rule23, day_rules, rules_at, broken_of, broken_at}
use Rattle.day.specs.Rules.{breach_from, breach, keeps}
use Rattle.day.specs.Profit.{energy, charge, profit_at, profit_to, profit_of}
use Rattle.cases.specs.Layout.{zeroed}
use Rattle.cases.specs.Published.{Counts}
use Rattle.cases.proofs.SymbolsLaws.{sum_same}
use Rattle.cases.proofs.ZeroedLaws.{pu_zeroed, pd_zeroed, price_zeroed, order_zeroed}

module _ (c : Case) (room : Counts c) (l : List ℕ) where
  -- marks: only a stop after T looks at a trajectory
  starting_zeroed : (k : ℕ) → starting (zeroed c) l k ≡ starting c l k
  unfolding starting y_back y v p zeroed
  starting_zeroed k = refl

  closes_zeroed : (i : ℕ) → closes (zeroed c) l i ≡ closes c l i
  unfolding closes p zeroed
  closes_zeroed i = go (leb i (DD c)) refl
    where
      go : (t : Bool) → leb i (DD c) ≡ t
          → (leb 2 i && (t && (eqb (p c l (last c)) (PD (zeroed c) i) && eqb (starting (zeroed c) l (last c)) 0)))
          ≡ (leb 2 i && (t && (eqb (p c l (last c)) (PD c i) && eqb (starting c l (last c)) 0)))
      go true e = rw (pd_zeroed c room.falls.1 i (leb-true i (DD c) e), starting_zeroed (last c))
      go false e = refl

  z_zeroed : (k : ℕ) → z (zeroed c) l k ≡ z c l k
  unfolding z v p zeroed
  z_zeroed zero = refl
  z_zeroed (suc k) =
      ap (λ t. bit (cond (ltb k (last c)) (eqb (v c l (suc k)) 0 && eqb (v c l k) 1) t))
      (closes_zeroed (last c + DD c + 1 - suc k))

  -- the sums
  stopping_zeroed : (k : ℕ) → stopping (zeroed c) l k ≡ stopping c l k
  unfolding stopping zeroed
  stopping_zeroed k = sum_same _ _ (DD c) (λ i a b. z_zeroed (k + i))

  stops_within_zeroed : (n k : ℕ) → stops_within (zeroed c) l n k ≡ stops_within c l n k
  unfolding stops_within
  stops_within_zeroed n k = sum_same _ _ n (λ i a b. z_zeroed (k + i - 1))

  start_output_zeroed : (k : ℕ) → start_output (zeroed c) l k ≡ start_output c l k
  unfolding start_output y_back y v p zeroed
  start_output_zeroed k = sum_same _ _ (UD c)
      (λ i a b. ap (λ x. x * y_back c l k i) (pu_zeroed c room.rises.1 i b))

  stop_output_zeroed : (k : ℕ) → stop_output (zeroed c) l k ≡ stop_output c l k
  unfolding stop_output zeroed
  stop_output_zeroed k = sum_same _ _ (DD c)
      (λ i a b.
      ap (λ x. x * z (zeroed c) l (k + DD c + 1 - i)) (pd_zeroed c room.falls.1 i b)
      ∙ ap (λ x. PD c i * x) (z_zeroed (k + DD c + 1 - i)))

  -- the rules
  hours_since_zeroed : (n k : ℕ) → hours_since (h c) (z (zeroed c) l) n k ≡ hours_since (h c) (z c l) n k
  unfolding hours_since
  hours_since_zeroed n zero = refl
  hours_since_zeroed n (suc k) = rw (z_zeroed (suc k), hours_since_zeroed n k)

  day_rules_zeroed : (k : ℕ) → suc k ≤ last c
      → broken_of (suc k) (day_rules (zeroed c) l) ≡ broken_of (suc k) (day_rules c l)
  unfolding broken_of day_rules rule1 rule2 rule3 rule4 rule5 rule6 rule7 rule8 rule9 rule10 rule11 rule12 rule21 rule22
      rule23 y v p zeroed
  day_rules_zeroed k h =
      let t = suc k in
      rw (
        starting_zeroed t,
        stopping_zeroed t,
        start_output_zeroed t,
        stop_output_zeroed t,
        stops_within_zeroed (DD c) t,
        stops_within_zeroed (UD c + DD c - 1) t,
        z_zeroed t,
        hours_since_zeroed t k,
        pu_zeroed c room.rises.1 (UD c) (omega arith),
        pd_zeroed c room.falls.1 1 room.falls.0,
        order_zeroed c room.hours.1 t h,
      )

  broken_at_zeroed : (k : ℕ) → broken_at (zeroed c) l k ≡ broken_at c l k
  unfolding broken_at broken_of rules_at rule2 rule4 rule21 y v p zeroed
  broken_at_zeroed zero = rw (starting_zeroed 0, stopping_zeroed 0, stop_output_zeroed 0)
  broken_at_zeroed (suc k) = go (ltb k (last c)) refl
    where
      go : (t : Bool) → ltb k (last c) ≡ t
          → broken_of (suc k) (cond t (day_rules (zeroed c) l) ((21, rule21 (zeroed c) l) ∷ []))
          ≡ broken_of (suc k) (cond t (day_rules c l) ((21, rule21 c l) ∷ []))
      go true e = day_rules_zeroed k (ltb-true k (last c) e)
      go false e = rw (z_zeroed (suc k))

  breach_from_zeroed : (n k : ℕ) → breach_from (zeroed c) l k n ≡ breach_from c l k n
  unfolding breach_from
  breach_from_zeroed zero k = refl
  breach_from_zeroed (suc n) k = rw (broken_at_zeroed k, breach_from_zeroed n (suc k))

  pub breach_zeroed : breach (zeroed c) l ≡ breach c l
  unfolding breach zeroed
  breach_zeroed = breach_from_zeroed (last c + DD c) 0

  pub keeps_zeroed : keeps (zeroed c) l ≡ keeps c l
  unfolding keeps zeroed
  keeps_zeroed = rw breach_zeroed

  profit_to_zeroed : (n : ℕ) → n ≤ last c → profit_to (zeroed c) l n ≡ profit_to c l n
  unfolding profit_to profit_at energy charge y v p zeroed
  profit_to_zeroed zero h = refl
  profit_to_zeroed (suc n) h =
      rw (profit_to_zeroed n (omega arith), price_zeroed c room.hours.1 (suc n) h, z_zeroed (suc n))

  pub profit_of_zeroed : profit_of (zeroed c) l ≡ profit_of c l
  unfolding profit_of zeroed
  profit_of_zeroed = profit_to_zeroed (last c) (omega arith)
