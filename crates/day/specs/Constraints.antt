-- Constraints (1) to (12) of document 000, term by term: a term with a minus sign stands on the other side, so that
-- every number is a natural one. Hour k counts from 1, and hour 0 is the one before the day. Marks of hours below 1 and
-- above T are in the sums (request F-5). Definitions only. Assumes nothing.
use Rattle.std.specs.Prelude.{Bool, List, ℕ, ◌+◌, ◌*◌, ◌-◌, leb, eqb}
use Rattle.cases.specs.declared.Case.{Case}
use Rattle.cases.specs.Symbols.{sum, before, high, low, RU, RD, UD, DD, PU, PD}
use Rattle.day.specs.Marks.{p, v, y, y_back, starting, z}

module _ (c : Case) (l : List ℕ) where
  -- how many shut-downs hour k lies in, a count: the sum of z(k+i), i from 1 to DD
  unfoldable pub stopping : ℕ → ℕ
  stopping k = sum (λ i. z c l (k + i)) (DD c)

  -- MW that the start-up trajectory prescribes: the sum of PU(i) y(k−i+1)
  unfoldable pub start_output : ℕ → ℕ
  start_output k = sum (λ i. PU c i * y_back c l k i) (UD c)

  -- MW that the shut-down trajectory prescribes: the sum of PD(i) z(k+DD−i+1)
  unfoldable pub stop_output : ℕ → ℕ
  stop_output k = sum (λ i. PD c i * z c l (k + DD c + 1 - i)) (DD c)

  -- stops in n hours from hour k: the sum of z(k+i−1), i from 1 to n
  unfoldable pub stops_within : ℕ → ℕ → ℕ
  stops_within n k = sum (λ i. z c l (k + i - 1)) n

  -- (1) and (2): the least output
  unfoldable pub rule1 : ℕ → Bool
  rule1 k = leb (low c * v c l k + start_output k) (p c l k + low c * (stopping k + starting c l k))

  unfoldable pub rule2 : ℕ → Bool
  rule2 k = leb (low c * v c l k + stop_output k) (p c l k + low c * (stopping k + starting c l k))

  -- (3) and (4): the greatest output
  unfoldable pub rule3 : ℕ → Bool
  rule3 k = leb (p c l k + high c * starting c l k) (start_output k + high c * v c l k)

  unfoldable pub rule4 : ℕ → Bool
  rule4 k = leb (p c l k + high c * stopping k) (stop_output k + high c * v c l k)

  -- (5): ramp-up, waived inside PU
  unfoldable pub rule5 : ℕ → Bool
  rule5 k = leb (p c l k + RU c * starting c l k) (p c l (before k) + (high c * starting c l k + RU c * v c l k))

  -- (6): ramp-down, waived inside PD
  unfoldable pub rule6 : ℕ → Bool
  rule6 k =
      leb (p c l (before k) + RD c * stops_within (DD c) k)
      (p c l k + (high c * stops_within (DD c) k + RD c * v c l (before k)))

  -- (7), (8) and (9): commitment
  unfoldable pub rule7 : ℕ → Bool
  rule7 k = eqb (y c l k + v c l (before k)) (v c l k + z c l k)

  unfoldable pub rule8 : ℕ → Bool
  rule8 k = leb (starting c l k) (v c l k)

  unfoldable pub rule9 : ℕ → Bool
  rule9 k = leb (stopping k) (v c l k)

  -- (10), (11) and (12): a start-up and a shut-down meet at most in the hour at minimum output
  unfoldable pub rule10 : ℕ → Bool
  rule10 k = leb (y c l k + stops_within (UD c + DD c - 1) k) 1

  unfoldable pub rule11 : ℕ → Bool
  rule11 k = leb (PU c (UD c) * (stopping k + starting c l k)) (p c l k + PU c (UD c))

  unfoldable pub rule12 : ℕ → Bool
  rule12 k = leb (PD c 1 * (stopping k + starting c l k)) (p c l k + PD c 1)
