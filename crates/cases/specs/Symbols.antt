-- The source's symbols for the fields of a case record (document 000, Nomenclature), and its sums. Definitions only.
-- Assumes nothing.
use Rattle.std.specs.Prelude.{Bool, true, false, ◌&&◌, List, ℕ, zero, suc, ◌+◌, ℤ, pos, get_or}
use Rattle.cases.specs.declared.Case.{Case}
use Rattle.quantities.specs.declared.Output.{Output}
use Rattle.quantities.specs.declared.Mills.{Mills}

-- f 1 + .. + f n
unfoldable pub sum : (ℕ → ℕ) → ℕ → ℕ
sum f zero = 0
sum f (suc n) = sum f n + f (suc n)

-- f 1 and .. and f n
unfoldable pub every : (ℕ → Bool) → ℕ → Bool
every f zero = true
every f (suc n) = every f n && f (suc n)

-- 1 where the test passes, else 0
abbrev pub bit : Bool → ℕ
bit true = 1
bit false = 0

-- the hour before hour k, from hour 1 on
abbrev pub before : ℕ → ℕ
before zero = 0
before (suc k) = k

-- the i-th entry of a trajectory in MW, i from 1; 0 at i = 0 and past the end
unfoldable pub stage : List Output → ℕ → ℕ
stage l zero = 0
stage l (suc i) = (get_or l i (record { 0 = 0 })).0

-- the entry of hour k, from 1; 0 at hour 0 and past the end
unfoldable pub hourly : List ℕ → ℕ → ℕ
hourly l zero = 0
hourly l (suc k) = get_or l k 0

-- the price of hour k, from 1, in mills per MWh; 0 at hour 0 and past the end
unfoldable pub priced : List Mills → ℕ → ℤ
priced l zero = pos 0
priced l (suc k) = (get_or l k (record { 0 = pos 0 })).0

module _ (c : Case) where
  -- capacity and minimum output, MW
  abbrev pub high : ℕ
  high = c.capacity.0

  abbrev pub low : ℕ
  low = c.minimum.0

  -- ramp limits, MW per hour
  abbrev pub RU : ℕ
  RU = c.rampup.0

  abbrev pub RD : ℕ
  RD = c.rampdown.0

  -- minimum up time and minimum down time, hours
  abbrev pub up_time : ℕ
  up_time = c.minup.0

  abbrev pub down_time : ℕ
  down_time = c.mindown.0

  -- durations of a start-up and a shut-down, and the trajectories, PU(i) and PD(i) in MW
  abbrev pub UD : ℕ
  UD = c.rises

  abbrev pub DD : ℕ
  DD = c.falls

  abbrev pub PU : ℕ → ℕ
  PU i = stage c.rise i

  abbrev pub PD : ℕ → ℕ
  PD i = stage c.fall i

  -- T of the papers: the last hour of the day
  abbrev pub last : ℕ
  last = c.hours

  -- mills: F per MWh, A per on-line hour, B per start, C per stop; the price of hour k per MWh
  abbrev pub F : ℤ
  F = c.variable.0

  abbrev pub A : ℤ
  A = c.fixed.0

  abbrev pub B : ℤ
  B = c.startcost.0

  abbrev pub C : ℤ
  C = c.stopcost.0

  abbrev pub price : ℕ → ℤ
  price k = priced c.prices k

  -- the order of hour k: 0 free, 1 on-line, 2 off-line
  abbrev pub order : ℕ → ℕ
  order k = hourly c.orders k

  -- p(0) in MW; h, the hours on-line or off-line before hour 1
  abbrev pub p0 : ℕ
  p0 = c.initial.0

  abbrev pub h : ℕ
  h = c.elapsed.0

  -- start-up stage and shut-down stage that p(0) has reached, or 0 (request F-5)
  abbrev pub up_stage : ℕ
  up_stage = c.upstage

  abbrev pub down_stage : ℕ
  down_stage = c.downstage
