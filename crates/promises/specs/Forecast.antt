-- What a price forecast can do (request F-8): what holds of a search and a check of one record at rows of prices, by
-- what the two answer. The promises say it of `schedule` and `check`, by a calendar and by a curve too; no entry rests
-- on it. Definitions only. Assumes nothing.
use Rattle.std.specs.Prelude.{◌≡◌, ◌⊎◌, List, ℕ, ◌*◌, ◌≤◌, ℤ, pos, nat_abs, ◌+ℤ◌, ◌-ℤ◌, ◌*ℤ◌, get_or, take, ◌≤ℤ◌}
use Rattle.std.specs.Prelude.{◌<ℤ◌, Result}
use Rattle.cases.specs.declared.Case.{Case}
use Rattle.quantities.specs.declared.Mills.{Mills}
use Rattle.cases.specs.declared.Verdict.{Verdict}
use Rattle.cases.specs.Symbols.{sum, before}
use Rattle.day.specs.Profit.{energy}
use Rattle.cases.specs.Layout.{no_mills, with_arrays}
use Rattle.cases.specs.Refusals.{refusal_of}
use Rattle.model.specs.Answers.{Scheduling, verdict_numbers, plan_numbers}
use Rattle.day.specs.Words.{sum_z}
use Rattle.quantities.specs.declared.Refusal.{Refusal}

-- the record with other prices, and with other orders
abbrev pub with_prices : Case → List Mills → Case
with_prices c prices = with_arrays c c.rise c.fall prices c.orders

abbrev pub ordered : Case → List ℕ → Case
ordered c orders = with_arrays c c.rise c.fall c.prices orders

-- the price of hour k, from 1, in mills per MWh
abbrev pub entry : List Mills → ℕ → ℤ
entry prices k = (get_or prices (before k) no_mills).0

module _ (c : Case) where
  -- ---- rows of prices, hour for hour
  -- none of the second is lower
  abbrev pub NoLower : List Mills → List Mills → Type 0
  NoLower f g = (k : ℕ) → 1 ≤ k → k ≤ c.hours → entry f k ≤ℤ entry g k

  -- the third is exactly half the sum
  abbrev pub HalfWay : List Mills → List Mills → List Mills → Type 0
  HalfWay f g e = (k : ℕ) → 1 ≤ k → k ≤ c.hours → entry e k *ℤ pos 2 ≡ entry f k +ℤ entry g k

  -- the second is higher by d
  abbrev pub RaisedBy : ℕ → List Mills → List Mills → Type 0
  RaisedBy d f g = (k : ℕ) → 1 ≤ k → k ≤ c.hours → entry g k ≡ entry f k +ℤ pos d

  -- the second is higher in hour j, and the same in every other
  pub record RaisedAt (j : ℕ) (f g : List Mills) : Type 0 where
    pub inside : (1 ≤ j) × (j ≤ c.hours)
    pub higher : entry f j <ℤ entry g j
    pub same : (k : ℕ) → 1 ≤ k → k ≤ c.hours → (k ≡ j → ⊥) → entry f k ≡ entry g k

  -- what the second row brings a list more than the first, in half-mills: what the two differ by, over its energy
  abbrev pub gain : List Mills → List Mills → List ℕ → ℤ
  gain f g l = sum_z (λ k. (entry g k -ℤ entry f k) *ℤ pos (energy c l k)) c.hours

  -- mills per MWh by which the two differ, up or down, added up
  abbrev pub distance : List Mills → List Mills → ℕ
  distance f g = sum (λ k. nat_abs (entry g k -ℤ entry f k)) c.hours

  -- the energy of the day, in half-megawatt-hours
  abbrev pub energy_of : List ℕ → ℕ
  energy_of l = sum (energy c l) c.hours

  -- a row with which the record is accepted
  pub record Row : Type 0 where
    pub prices : List Mills
    pub accepted : refusal_of (with_prices c prices) ≡ 0

  -- a search and a check of the record at each such row
  pub record Calls : Type 0 where
    pub search : Row → Scheduling
    pub check : Row → List ℕ → Result Verdict Refusal

module _ {c : Case} (calls : Calls c) where
  -- what the search answers: its number, the profit in half-mills, and the list that it leaves
  abbrev pub number : Row c → ℕ
  number f = (plan_numbers (calls.search f).answer).0

  abbrev pub best : Row c → ℤ
  best f = (plan_numbers (calls.search f).answer).1

  abbrev pub plan : Row c → List ℕ
  plan f = take c.hours (calls.search f).outputs

  -- what the check answers: what a list earns, in half-mills, and that it passes
  abbrev pub earns : Row c → List ℕ → ℤ
  earns f l = (verdict_numbers (calls.check f l)).3

  abbrev pub Pass : Row c → List ℕ → Type 0
  Pass f l = verdict_numbers (calls.check f l) ≡ (0, 0, 0, earns f l)

  pub record Forecasts : Type 0 where
    -- at two rows both searches find a list, or both get 11
    pub alike : (f g : Row c) → ((number f ≡ 0) × (number g ≡ 0)) ⊎ ((number f ≡ 11) × (number g ≡ 11))
    -- no price lower, no lower profit
    pub no_lower : (f g : Row c) → NoLower c f.prices g.prices → best f ≤ℤ best g
    -- half way, twice the profit is at most the sum of the other two
    pub half_way : (f g e : Row c) → HalfWay c f.prices g.prices e.prices
        → (best e *ℤ pos 2) ≤ℤ (best f +ℤ best g)
    -- ---- a list at other prices
    -- it passes there too, and what it earns changes by what the rows differ by, over its energy
    pub carried : (f g : Row c) (l : List ℕ) → Pass f l
        → Pass g l × (earns g l ≡ earns f l +ℤ gain c f.prices g.prices l)
    -- it earns no more than the search says, and the plan earns that
    pub most : (f : Row c) (l : List ℕ) → Pass f l → earns f l ≤ℤ best f
    pub planned : (f : Row c) → number f ≡ 0 → Pass f (plan f) × (earns f (plan f) ≡ best f)
    -- ---- a plan that was made on a forecast f, and the actual prices a
    -- what it falls short of the best is at most what the rows differ by, over the energy by which the plans differ
    pub regret : (f a : Row c) → number f ≡ 0
        → best a
        ≤ℤ (earns a (plan f)
        +ℤ (gain c f.prices a.prices (plan a) -ℤ gain c f.prices a.prices (plan f)))
    -- and at most what they differ by, over all that the unit can give
    pub regret_most : (f a : Row c) → number f ≡ 0
        → best a ≤ℤ (earns a (plan f) +ℤ pos (2 * c.capacity.0 * distance c f.prices a.prices))
    -- where no actual price is lower, the plan earns no less than the search said
    pub kept_promise : (f a : Row c) → number f ≡ 0 → NoLower c f.prices a.prices → best f ≤ℤ earns a (plan f)
    -- ---- higher prices
    -- all higher by d: the profit rises by d over the energy of the first plan at the least, and of the second at the
    -- most; the second has no less energy
    pub raised : (d : ℕ) (f g : Row c) → number f ≡ 0 → RaisedBy c d f.prices g.prices
        → ((best f +ℤ pos (d * energy_of c (plan f))) ≤ℤ best g)
        × (best g ≤ℤ (best f +ℤ pos (d * energy_of c (plan g))))
        × (1 ≤ d → energy_of c (plan f) ≤ energy_of c (plan g))
    -- that of one hour higher: it has no less energy
    pub raised_at : (j : ℕ) (f g : Row c) → number f ≡ 0 → RaisedAt c j f.prices g.prices
        → energy c (plan f) j ≤ energy c (plan g) j
    -- ---- two forecasts
    -- of all lists the plan half way earns most at the two rows together
    pub half_way_plan : (f g e : Row c) → HalfWay c f.prices g.prices e.prices → number e ≡ 0
        → (earns f (plan e) +ℤ earns g (plan e) ≡ best e *ℤ pos 2)
        × ((l : List ℕ) → Pass f l → (earns f l +ℤ earns g l) ≤ℤ (best e *ℤ pos 2))
