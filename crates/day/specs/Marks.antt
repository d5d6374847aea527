-- The outputs of a list, and the marks v, y and z (document 01, "Rules of a list"), with those outside the day (request
-- F-5). Definitions only. Assumes nothing.
use Rattle.std.specs.Prelude.{Bool, ◌&&◌, cond, List, ℕ, zero, suc, ◌+◌, ◌-◌, leb, ltb, eqb, get_or}
use Rattle.cases.specs.declared.Case.{Case}
use Rattle.cases.specs.Symbols.{sum, bit, UD, DD, PD, last, p0, up_stage}

module _ (c : Case) (l : List ℕ) where
  -- p(k): the output at the end of hour k, in MW; 0 past the end of the list
  unfoldable pub p : ℕ → ℕ
  p zero = p0 c
  p (suc k) = get_or l k 0

  -- v(k): 1 exactly if p(k) is above 0
  unfoldable pub v : ℕ → ℕ
  v k = bit (ltb 0 (p k))

  -- y(k) marks a start in hours 1 to T: v(k) is 1 and v(k−1) is 0; none above T
  unfoldable pub y : ℕ → ℕ
  y zero = 0
  y (suc k) = bit (ltb k (last c) && (eqb (v (suc k)) 1 && eqb (v k) 0))

  -- y(k−i+1), i from 1. In the hours below 1, where i is above k, only the start in which the day opens is marked: it
  -- stands at hour 1 − stage
  unfoldable pub y_back : ℕ → ℕ → ℕ
  y_back k i = cond (ltb k i) (bit (eqb (i - k) (up_stage c))) (y (k + 1 - i))

  -- how many start-ups hour k lies in, a count: the sum of y(k−i+1), i from 1 to UD
  unfoldable pub starting : ℕ → ℕ
  starting k = sum (λ i. y_back k i) (UD c)

  -- the day closes in a shut-down at PD(i): i is 2 or more, p(T) is PD(i), and hour T lies in no start-up
  unfoldable pub closes : ℕ → Bool
  closes i = leb 2 i && (leb i (DD c) && (eqb (p (last c)) (PD c i) && eqb (starting (last c)) 0))

  -- z(k) marks a stop in hours 1 to T, the reverse of a start; above T it stands at T + DD + 1 − i where the day closes
  -- at PD(i)
  unfoldable pub z : ℕ → ℕ
  z zero = 0
  z (suc k) = bit (cond (ltb k (last c)) (eqb (v (suc k)) 0 && eqb (v k) 1) (closes (last c + DD c + 1 - suc k)))
