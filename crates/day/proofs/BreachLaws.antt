-- Laws of rules 21 to 23, of the first rule that an hour breaks, and of the first breach of a day. Assumes nothing.
use mathlib.Core.Path.{◌≡◌, refl, ap}
use mathlib.Core.Bool.{Bool, true, false, ◌&&◌, ◌||◌, cond}
use mathlib.Core.List.{List, [], ◌∷◌, ◌++◌}
use mathlib.Core.Option.{none, some}
use Prim.Native.Nat.{ℕ, zero, suc, ◌+◌, ◌-◌, ◌≤◌, ◌<◌}
use native.Mathlib.Omega.{arith}
use native.Mathlib.Numerals.{add-one}
use lib.Dec.{T, leb, ltb, eqb}
use borrow.Author.Tests.{eq-eqb, ne_eqb, lt-ltb, le-ltb, ltb-true}
use Rattle.cases.specs.declared.Case.{Case}
use Rattle.cases.specs.Symbols.{before, last, order, h, DD}
use Rattle.day.specs.Marks.{v, y, z}
use Rattle.day.specs.Constraints.{rule1, rule2, rule3, rule4, rule5, rule6}
use Rattle.day.specs.Constraints.{rule7, rule8, rule9, rule10, rule11, rule12}
use Rattle.day.specs.Rules.{hours_since, rule21, rule22, rule23, day_rules, rules_at, broken_of, broken_at}
use Rattle.day.specs.Rules.{breach_from, breach}

-- hours since a marked hour: at hour 1, none; at the next hour, 1 after a mark, and else one more
module _ (held : ℕ) (f : ℕ → ℕ) where
  pub since_first : hours_since held f 1 0 ≡ held
  unfolding hours_since
  since_first = omega arith

  longer : (n k : ℕ) → k ≤ n → 0 < n → hours_since held f (suc n) k ≡ hours_since held f n k + 1
  unfolding hours_since
  longer n zero m l = omega arith
  longer n (suc k) m l = go (eqb (f (suc k)) 1) (longer n k (omega arith) l)
    where
      go : (t : Bool) → hours_since held f (suc n) k ≡ hours_since held f n k + 1
          → cond t (suc n - suc k) (hours_since held f (suc n) k) ≡ cond t (n - suc k) (hours_since held f n k) + 1
      go true e = omega arith
      go false e = e

  pub since_marked : (k : ℕ) → 0 < k → f k ≡ 1 → hours_since held f (k + 1) (before (k + 1)) ≡ 1
  unfolding hours_since
  since_marked zero l e = absurd (omega arith)
  since_marked (suc k) l e = rw (add-one, eq-eqb (f (suc k)) 1 e) (omega arith)

  pub since_unmarked : (k : ℕ) → 0 < k → (f k ≡ 1 → ⊥)
      → hours_since held f (k + 1) (before (k + 1)) ≡ hours_since held f k (before k) + 1
  unfolding hours_since
  since_unmarked zero l n = absurd (omega arith)
  since_unmarked (suc k) l n = rw (add-one, ne_eqb (f (suc k)) 1 n) (longer (suc k) k (omega arith) (omega arith))

module _ (c : Case) (l : List ℕ) where
  -- rules 21 to 23 by their tests
  pub rule21_is : (k : ℕ)
      → rule21 c l k ≡ (eqb (z c l k) 0 || leb c.minup.0 (hours_since (h c) (y c l) k (before k)))
  unfolding rule21
  rule21_is k = refl

  pub rule22_is : (k : ℕ)
      → rule22 c l k ≡ (eqb (y c l k) 0 || leb c.mindown.0 (hours_since (h c) (z c l) k (before k)))
  unfolding rule22
  rule22_is k = refl

  pub rule23_is : (k : ℕ)
      → rule23 c l k
      ≡ (eqb (order c k) 0 || (eqb (order c k) 1 && eqb (v c l k) 1 || eqb (order c k) 2 && eqb (v c l k) 0))
  unfolding rule23
  rule23_is k = refl

-- the first rule of a list that fails
abbrev Numbered : Type 0
Numbered = List (ℕ × (ℕ → Bool))

pub broken_of_none : (k : ℕ) → broken_of k [] ≡ 0
unfolding broken_of
broken_of_none k = refl

pub broken_of_fails : (k a : ℕ) (test : ℕ → Bool) (rs : Numbered) → test k ≡ false → broken_of k ((a, test) ∷ rs) ≡ a
unfolding broken_of
broken_of_fails k a test rs e = ap (λ t. cond t (broken_of k rs) a) e

pub broken_of_holds : (k a : ℕ) (test : ℕ → Bool) (rs : Numbered) → test k ≡ true
    → broken_of k ((a, test) ∷ rs) ≡ broken_of k rs
unfolding broken_of
broken_of_holds k a test rs e = ap (λ t. cond t (broken_of k rs) a) e

-- every number is above 0
abbrev pub above0 : Numbered → Bool
above0 [] = true
above0 (r ∷ rs) = ltb 0 r.0 && above0 rs

-- two lists of rules, one after the other
pub broken_of_first : (k : ℕ) (rs ts : Numbered) → (broken_of k rs ≡ 0 → ⊥) → broken_of k (rs ++ ts) ≡ broken_of k rs
unfolding broken_of
broken_of_first k [] ts n = absurd (n refl)
broken_of_first k (r ∷ rs) ts n = go (r.1 k) n (broken_of_first k rs ts)
  where
    go : (t : Bool) → (cond t (broken_of k rs) r.0 ≡ 0 → ⊥)
        → ((broken_of k rs ≡ 0 → ⊥) → broken_of k (rs ++ ts) ≡ broken_of k rs)
        → cond t (broken_of k (rs ++ ts)) r.0 ≡ cond t (broken_of k rs) r.0
    go true m more = more m
    go false m more = refl

pub broken_of_second : (k : ℕ) (rs ts : Numbered) → T (above0 rs) → broken_of k rs ≡ 0
    → broken_of k (rs ++ ts) ≡ broken_of k ts
unfolding broken_of
broken_of_second k [] ts a e = refl
broken_of_second k (r ∷ rs) ts a e = go (r.1 k) (ltb 0 r.0) refl a e (broken_of_second k rs ts)
  where
    go : (t above : Bool) → ltb 0 r.0 ≡ above → T (above && above0 rs) → cond t (broken_of k rs) r.0 ≡ 0
        → (T (above0 rs) → broken_of k rs ≡ 0 → broken_of k (rs ++ ts) ≡ broken_of k ts)
        → cond t (broken_of k (rs ++ ts)) r.0 ≡ broken_of k ts
    go true true q b m more = more b m
    go false true q b m more = absurd (omega (arith, ltb-true 0 r.0 q))
    go t false q b m more = absurd b

module _ (c : Case) (l : List ℕ) where
  -- the rules of hour 0, of the hours of the day, and of those after it
  pub broken_at_zero : broken_at c l 0 ≡ broken_of 0 ((2, rule2 c l) ∷ (4, rule4 c l) ∷ [])
  unfolding broken_at rules_at
  broken_at_zero = refl

  pub broken_at_inside : (k : ℕ) → 0 < k → k ≤ last c → broken_at c l k ≡ broken_of k (day_rules c l)
  unfolding broken_at rules_at
  broken_at_inside zero m n = absurd (omega arith)
  broken_at_inside (suc k) m n =
      ap (λ t. broken_of (suc k) (cond t (day_rules c l) ((21, rule21 c l) ∷ []))) (lt-ltb k (last c) n)

  pub broken_at_after : (k : ℕ) → last c < k → broken_at c l k ≡ broken_of k ((21, rule21 c l) ∷ [])
  unfolding broken_at rules_at
  broken_at_after zero m = absurd (omega arith)
  broken_at_after (suc k) m =
      ap (λ t. broken_of (suc k) (cond t (day_rules c l) ((21, rule21 c l) ∷ []))) (le-ltb k (last c) (omega arith))

  pub day_rules_are :
      day_rules c l
      ≡ (1, rule1 c l)
      ∷ (2, rule2 c l)
      ∷ (3, rule3 c l)
      ∷ (4, rule4 c l)
      ∷ (5, rule5 c l)
      ∷ (6, rule6 c l)
      ∷ (7, rule7 c l)
      ∷ (8, rule8 c l)
      ∷ (9, rule9 c l)
      ∷ (10, rule10 c l)
      ∷ (11, rule11 c l)
      ∷ (12, rule12 c l)
      ∷ (21, rule21 c l)
      ∷ (22, rule22 c l)
      ∷ (23, rule23 c l)
      ∷ []
  unfolding day_rules
  day_rules_are = refl

  -- the first breach, hour by hour
  pub breach_is : breach c l ≡ breach_from c l 0 (last c + DD c)
  unfolding breach
  breach_is = refl

  pub breach_from_none : (k : ℕ) → breach_from c l k 0 ≡ none
  unfolding breach_from
  breach_from_none k = refl

  pub breach_from_kept : (k n : ℕ) → broken_at c l k ≡ 0 → breach_from c l k (n + 1) ≡ breach_from c l (k + 1) n
  unfolding breach_from
  breach_from_kept k n e = rw (add-one n, add-one k, e)

  pub breach_from_broken : (k n : ℕ) → (broken_at c l k ≡ 0 → ⊥)
      → breach_from c l k (n + 1) ≡ some (record { hour = record { 0 = k }; rule = broken_at c l k })
  unfolding breach_from
  breach_from_broken k n m = rw (add-one, ne_eqb (broken_at c l k) 0 m)
