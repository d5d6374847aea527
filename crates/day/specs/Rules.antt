-- Rules 21 to 23, the rules of each hour, and the first that a list breaks (document 01, "Rules of a list").
-- Definitions only. Assumes nothing.
use Rattle.std.specs.Prelude.{Bool, true, false, ◌&&◌, ◌||◌, cond, List, [], ◌∷◌, ℕ, zero, suc, ◌+◌, ◌-◌, leb, ltb}
use Rattle.std.specs.Prelude.{eqb, length}
use Rattle.std.proofs.Math.Option.{Option, none, some}
use Rattle.cases.specs.declared.Case.{Case}
use Rattle.cases.specs.declared.Breach.{Breach}
use Rattle.cases.specs.Symbols.{before, last, order, up_time, down_time, h, DD}
use Rattle.day.specs.Marks.{v, y, z}
use Rattle.day.specs.Constraints.{rule1, rule2, rule3, rule4, rule5, rule6, rule7, rule8, rule9, rule10}
use Rattle.day.specs.Constraints.{rule11, rule12}

-- hours from the latest hour that f marks, among hours 1 to k, to hour n; with none, h + n − 1
unfoldable pub hours_since : ℕ → (ℕ → ℕ) → ℕ → ℕ → ℕ
hours_since held f n zero = held + n - 1
hours_since held f n (suc k) =
    let earlier = hours_since held f n k in
    cond (eqb (f (suc k)) 1) (n - suc k) earlier

module _ (c : Case) (l : List ℕ) where
  -- minimum up time, tested at a stop, also above T
  unfoldable pub rule21 : ℕ → Bool
  rule21 k = eqb (z c l k) 0 || leb (up_time c) (hours_since (h c) (y c l) k (before k))

  -- minimum down time, tested at a start
  unfoldable pub rule22 : ℕ → Bool
  rule22 k = eqb (y c l k) 0 || leb (down_time c) (hours_since (h c) (z c l) k (before k))

  -- the hour's order; a byte above 2 is kept by no output
  unfoldable pub rule23 : ℕ → Bool
  rule23 k = eqb (order c k) 0 || (eqb (order c k) 1 && eqb (v c l k) 1 || eqb (order c k) 2 && eqb (v c l k) 0)

  -- the rules of an hour of the day by their numbers, lowest first
  unfoldable pub day_rules : List (ℕ × (ℕ → Bool))
  day_rules =
      (1, rule1 c l) ∷ (2, rule2 c l) ∷ (3, rule3 c l) ∷ (4, rule4 c l) ∷ (5, rule5 c l) ∷ (6, rule6 c l)
      ∷ (7, rule7 c l) ∷ (8, rule8 c l) ∷ (9, rule9 c l) ∷ (10, rule10 c l) ∷ (11, rule11 c l) ∷ (12, rule12 c l)
      ∷ (21, rule21) ∷ (22, rule22) ∷ (23, rule23) ∷ []

  -- the rules of hour k: at hour 0 only (2) and (4), above T only 21
  unfoldable pub rules_at : ℕ → List (ℕ × (ℕ → Bool))
  rules_at zero = (2, rule2 c l) ∷ (4, rule4 c l) ∷ []
  rules_at (suc k) = cond (ltb k (last c)) day_rules ((21, rule21) ∷ [])

-- the number of the first rule that fails at hour k; 0 where none does
unfoldable pub broken_of : ℕ → List (ℕ × (ℕ → Bool)) → ℕ
broken_of k [] = 0
broken_of k (r ∷ rs) =
    let later = broken_of k rs in
    cond (r.1 k) later r.0

module _ (c : Case) (l : List ℕ) where
  -- the number of the lowest rule that hour k breaks; 0 where it breaks none
  unfoldable pub broken_at : ℕ → ℕ
  broken_at k = broken_of k (rules_at c l k)

  -- the earliest breach of n hours from hour k
  unfoldable pub breach_from : ℕ → ℕ → Option Breach
  breach_from k zero = none
  breach_from k (suc n) =
      let later = breach_from (suc k) n in
      let here : Breach = record { hour = record { 0 = k }; rule = broken_at k } in
      cond (eqb (broken_at k) 0) later (some here)

  -- the first breach of the day: the earliest hour, hour 0 and those of a stop after T included, and there the lowest
  -- number
  unfoldable pub breach : Option Breach
  breach = breach_from 0 (last c + DD c)

abbrev pub is_none : {X : Type 0} → Option X → Bool
is_none none = true
is_none (some x) = false

-- a list of T outputs that keeps every rule
unfoldable pub keeps : Case → List ℕ → Bool
keeps c l = eqb (length l) (last c) && is_none (breach c l)
