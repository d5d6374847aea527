-- Outputs past the last hour are never looked at: two lists with the same outputs up to T break the same rule first,
-- and earn the same. Assumes nothing.
use mathlib.Core.Path.{◌≡◌, refl, ap}
use mathlib.Core.Bool.{Bool, true, false, ◌&&◌, cond}
use mathlib.Core.List.{List, [], ◌∷◌, ◌++◌}
use Prim.Native.Nat.{ℕ, zero, suc, ◌+◌, ◌*◌, ◌-◌, ◌≤◌, ◌<◌}
use native.Mathlib.Omega.{arith}
use borrow.Author.Tests.{ltb-true}
use lib.Dec.{ltb, eqb}
use lib.ListN.{length, get_or, get_or-append}
use Rattle.cases.specs.declared.Case.{Case}
use Rattle.cases.specs.Symbols.{bit, last, UD, DD, PU, PD, up_stage}
use Rattle.day.specs.Marks.{p, v, y, y_back, starting, closes, z}
use Rattle.day.specs.Constraints.{stopping, start_output, stop_output, stops_within}
use Rattle.day.specs.Constraints.{rule1, rule2, rule3, rule4, rule5, rule6, rule7, rule8, rule9, rule10}
use Rattle.day.specs.Constraints.{rule11, rule12}
use Rattle.day.specs.Rules.{hours_since, rule21, rule22, rule23, day_rules, rules_at, broken_of, broken_at}
use Rattle.day.specs.Rules.{breach_from, breach}
use Rattle.day.specs.Profit.{energy, charge, profit_at, profit_to, profit_of}
use Rattle.cases.proofs.SymbolsLaws.{sum_same}

module _ (c : Case) (l m : List ℕ) (agree : (i : ℕ) → i < last c → get_or l i 0 ≡ get_or m i 0) where
  p_same : (k : ℕ) → k ≤ last c → p c l k ≡ p c m k
  unfolding p
  p_same zero h = refl
  p_same (suc k) h = agree k h

  v_same : (k : ℕ) → k ≤ last c → v c l k ≡ v c m k
  unfolding v
  v_same k h = ap (λ x. bit (ltb 0 x)) (p_same k h)

  y_same : (k : ℕ) → y c l k ≡ y c m k
  unfolding y
  y_same zero = refl
  y_same (suc k) = go (ltb k (last c)) refl
    where
      go : (t : Bool) → ltb k (last c) ≡ t
          → bit (t && (eqb (v c l (suc k)) 1 && eqb (v c l k) 0))
          ≡ bit (t && (eqb (v c m (suc k)) 1 && eqb (v c m k) 0))
      go true e =
          let h = ltb-true k (last c) e in
          rw (v_same (suc k) h, v_same k (omega arith))
      go false e = refl

  y_back_same : (k i : ℕ) → y_back c l k i ≡ y_back c m k i
  unfolding y_back
  y_back_same k i = ap (cond (ltb k i) (bit (eqb (i - k) (up_stage c)))) (y_same (k + 1 - i))

  starting_same : (k : ℕ) → starting c l k ≡ starting c m k
  unfolding starting
  starting_same k = sum_same _ _ (UD c) (λ i a b. y_back_same k i)

  closes_same : (i : ℕ) → closes c l i ≡ closes c m i
  unfolding closes
  closes_same i = rw (p_same (last c) (omega arith), starting_same (last c))

  z_same : (k : ℕ) → z c l k ≡ z c m k
  unfolding z
  z_same zero = refl
  z_same (suc k) = go (ltb k (last c)) refl
    where
      i : ℕ
      i = last c + DD c + 1 - suc k

      go : (t : Bool) → ltb k (last c) ≡ t
          → bit (cond t (eqb (v c l (suc k)) 0 && eqb (v c l k) 1) (closes c l i))
          ≡ bit (cond t (eqb (v c m (suc k)) 0 && eqb (v c m k) 1) (closes c m i))
      go true e =
          let h = ltb-true k (last c) e in
          rw (v_same (suc k) h, v_same k (omega arith))
      go false e = ap bit (closes_same i)

  stopping_same : (k : ℕ) → stopping c l k ≡ stopping c m k
  unfolding stopping
  stopping_same k = sum_same _ _ (DD c) (λ i a b. z_same (k + i))

  start_output_same : (k : ℕ) → start_output c l k ≡ start_output c m k
  unfolding start_output
  start_output_same k = sum_same _ _ (UD c) (λ i a b. ap (λ x. PU c i * x) (y_back_same k i))

  stop_output_same : (k : ℕ) → stop_output c l k ≡ stop_output c m k
  unfolding stop_output
  stop_output_same k = sum_same _ _ (DD c) (λ i a b. ap (λ x. PD c i * x) (z_same (k + DD c + 1 - i)))

  stops_within_same : (n k : ℕ) → stops_within c l n k ≡ stops_within c m n k
  unfolding stops_within
  stops_within_same n k = sum_same _ _ n (λ i a b. z_same (k + i - 1))

  hours_since_same : (f g : ℕ → ℕ) → ((k : ℕ) → f k ≡ g k) → (held n k : ℕ)
      → hours_since held f n k ≡ hours_since held g n k
  unfolding hours_since
  hours_since_same f g e held n zero = refl
  hours_since_same f g e held n (suc k) = rw (e (suc k), hours_since_same f g e held n k)

  -- every rule of an hour, in the day and after it
  day_rules_same : (k : ℕ) → suc k ≤ last c → broken_of (suc k) (day_rules c l) ≡ broken_of (suc k) (day_rules c m)
  unfolding broken_of day_rules rule1 rule2 rule3 rule4 rule5 rule6 rule7 rule8 rule9 rule10 rule11 rule12 rule21 rule22
      rule23
  day_rules_same k h =
      let t = suc k in
      let b : k ≤ last c = omega arith in
      simp (
        p_same t h,
        p_same k b,
        v_same t h,
        v_same k b,
        y_same t,
        z_same t,
        starting_same t,
        stopping_same t,
        start_output_same t,
        stop_output_same t,
        stops_within_same (DD c) t,
        stops_within_same (UD c + DD c - 1) t,
        hours_since_same (y c l) (y c m) y_same c.elapsed.0 t k,
        hours_since_same (z c l) (z c m) z_same c.elapsed.0 t k,
      )

  broken_at_same : (k : ℕ) → broken_at c l k ≡ broken_at c m k
  unfolding broken_at broken_of rules_at rule2 rule4 rule21
  broken_at_same zero =
      rw (v_same 0 (omega arith), p_same 0 (omega arith), starting_same 0, stopping_same 0, stop_output_same 0)
  broken_at_same (suc k) = go (ltb k (last c)) refl
    where
      go : (t : Bool) → ltb k (last c) ≡ t
          → broken_of (suc k) (cond t (day_rules c l) ((21, rule21 c l) ∷ []))
          ≡ broken_of (suc k) (cond t (day_rules c m) ((21, rule21 c m) ∷ []))
      go true e = day_rules_same k (ltb-true k (last c) e)
      go false e = rw (z_same (suc k), hours_since_same (y c l) (y c m) y_same c.elapsed.0 (suc k) k)

  breach_from_same : (n k : ℕ) → breach_from c l k n ≡ breach_from c m k n
  unfolding breach_from
  breach_from_same zero k = refl
  breach_from_same (suc n) k = rw (broken_at_same k, breach_from_same n (suc k))

  pub breach_same : breach c l ≡ breach c m
  unfolding breach
  breach_same = breach_from_same (last c + DD c) 0

  profit_to_same : (n : ℕ) → n ≤ last c → profit_to c l n ≡ profit_to c m n
  unfolding profit_to profit_at energy charge
  profit_to_same zero h = refl
  profit_to_same (suc n) h =
      let t = suc n in
      let b : n ≤ last c = omega arith in
      rw (profit_to_same n b, p_same t h, p_same n b, v_same t h, y_same t, z_same t)

  pub profit_of_same : profit_of c l ≡ profit_of c m
  unfolding profit_of
  profit_of_same = profit_to_same (last c) (omega arith)

-- what follows a list of T outputs
appended : (c : Case) (l m : List ℕ) → length l ≡ last c → (i : ℕ) → i < last c → get_or (l ++ m) i 0 ≡ get_or l i 0
appended c l m e i h = get_or-append l m 0 i (omega arith)

pub breach_append : (c : Case) (l m : List ℕ) → length l ≡ last c → breach c (l ++ m) ≡ breach c l
breach_append c l m e = breach_same c (l ++ m) l (appended c l m e)

pub profit_of_append : (c : Case) (l m : List ℕ) → length l ≡ last c → profit_of c (l ++ m) ≡ profit_of c l
profit_of_append c l m e = profit_of_same c (l ++ m) l (appended c l m e)
