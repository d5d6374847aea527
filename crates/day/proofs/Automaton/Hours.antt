-- A day by its outputs and marks as functions of the hour, and the rules over them, with the hours before the day as a
-- parameter: what the rules of document 01 come to for any outputs p, starts y and stops z. Definitions only.
use mathlib.Core.Path.{◌≡◌}
use Prim.Native.Nat.{ℕ, zero, suc, ◌+◌, ◌*◌, ◌-◌, ◌≤◌, ◌<◌}
use lib.Dec.{eqb}
use Rattle.cases.specs.declared.Case.{Case}
use Rattle.cases.specs.Symbols.{sum, bit, before, UD, DD, PU, PD}
use Rattle.day.specs.Automaton.{St, Step}
use Rattle.day.proofs.LiteralLaws.{Hour, Open}

-- 1 exactly if the output is above 0
abbrev pub on : ℕ → ℕ
on zero = 0
on (suc n) = 1

-- 1 exactly if the first output is 0 and the second is not
abbrev pub rise : ℕ → ℕ → ℕ
rise zero n = on n
rise (suc m) n = 0

-- y(k − i + 1), i from 1: with `past i` for y(1 − i), the hours up to 0
abbrev pub back : (ℕ → ℕ) → (ℕ → ℕ) → ℕ → ℕ → ℕ
back past y zero i = past i
back past y (suc k) zero = 0
back past y (suc k) (suc zero) = y (suc k)
back past y (suc k) (suc (suc i)) = back past y k (suc i)

-- z(k + i)
abbrev pub later : (ℕ → ℕ) → ℕ → ℕ → ℕ
later z k i = z (k + i)

-- y marks the starts and z the stops of the outputs p, in hours 1 to T
pub record Marks (T : ℕ) (p y z : ℕ → ℕ) : Type 0 where
  pub y_le : (k : ℕ) → y k ≤ 1
  pub z_le : (k : ℕ) → z k ≤ 1
  pub y_is : (k : ℕ) → k < T → y (suc k) ≡ rise (p k) (p (suc k))
  pub z_is : (k : ℕ) → k < T → z (suc k) ≡ rise (p (suc k)) (p k)

-- the count an hour on: 1 at a mark, else one more
abbrev pub again : ℕ → ℕ → ℕ
again zero a = suc a
again (suc n) a = 1

-- hours from the latest hour up to k that f marks, that hour counted; with none, h + k
unfoldable pub since : (ℕ → ℕ) → ℕ → ℕ → ℕ
since f h zero = h
since f h (suc k) = again (f (suc k)) (since f h k)

module _ (U : Case) (past p y z : ℕ → ℕ) (obeys : ℕ → ℕ → Type 0) where
  -- constraints (1) to (12) and rule 23 at hour k
  pub record Keeps (k : ℕ) : Type 0 where
    pub hour : Hour U (p k) (p (before k)) (on (p k)) (on (p (before k))) (y k) (z k)
        (sum (λ i. back past y k i) (UD U)) (sum (λ i. PU U i * back past y k i) (UD U))
        (sum (λ i. z (k + i)) (DD U)) (sum (λ i. PD U i * z (k + DD U + 1 - i)) (DD U))
        (sum (λ i. z (k + i - 1)) (DD U)) (sum (λ i. z (k + i - 1)) (UD U + DD U - 1))
    pub ordered : obeys k (p k)

  -- the rules of a day of T hours, hour 0 included
  pub record KeepsAll (T : ℕ) : Type 0 where
    pub opening : Open U (p 0) (on (p 0)) (sum (λ i. back past y 0 i) (UD U)) (sum (λ i. z (0 + i)) (DD U))
        (sum (λ i. PD U i * z (0 + DD U + 1 - i)) (DD U))
    pub each : (k : ℕ) → 1 ≤ k → k ≤ T → Keeps k
    pub up_time_kept : (k : ℕ) → z (suc k) ≡ 1 → U.minup.0 ≤ since y U.elapsed.0 k
    pub down_time_kept : (k : ℕ) → y (suc k) ≡ 1 → U.mindown.0 ≤ since z U.elapsed.0 k

-- ---- runs
-- y(1 − i), i from 1, for a day that opens at stage u of a start-up, or in none, where u is 0
abbrev pub opens : ℕ → ℕ → ℕ
opens u i = bit (eqb i u)

-- from state s at hour k, the n hours that follow are run through with the outputs p, and the day ends in a state that
-- may be the last
abbrev pub Acc : Case → (ℕ → ℕ) → (St → Type 0) → (ℕ → ℕ → Type 0) → ℕ → ℕ → St → Type 0
Acc U p last obeys zero k s = last s
Acc U p last obeys (suc n) k s =
    (t : St) × Step U (p (suc k)) s t × obeys (suc k) (p (suc k)) × Acc U p last obeys n (suc k) t
