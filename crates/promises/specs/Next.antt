-- The state that a list leaves at the end of its day, and the day that opens with it (request F-5). Definitions only.
-- Assumes nothing.
use Rattle.std.specs.Prelude.{cond, List, ◌++◌, ℕ, suc, ◌+◌, ◌*◌, min, ltb, eqb, get_or}
use Rattle.cases.specs.declared.Case.{Case}
use Rattle.quantities.specs.declared.Mills.{Mills}
use Rattle.cases.specs.Limits.{most_elapsed}
use Rattle.cases.specs.Symbols.{sum, bit, UD, DD, last, h}
use Rattle.day.specs.Marks.{p, y, starting, closes, z}
use Rattle.day.specs.Rules.{hours_since}
use Rattle.cases.specs.Layout.{Opening, opening_of, remade, listed, no_mills}

module _ (c : Case) (l : List ℕ) where
  -- hours on-line, and off-line, at the end of hour T: since the latest start or stop of the day, or else h + T
  unfoldable pub on_hours : ℕ
  on_hours = hours_since (h c) (y c l) (suc (last c)) (last c)

  unfoldable pub off_hours : ℕ
  off_hours = hours_since (h c) (z c l) (suc (last c)) (last c)

  -- the opening of the next day: p(T); the hours in that state, which stop at 10,000; the stage below UD of a start-up
  -- that holds hour T; the stage of the shut-down in which the day closes
  unfoldable pub leaves : Opening
  leaves =
      record {
        initial = record { 0 = p c l (last c) };
        elapsed = record { 0 = min (cond (eqb (p c l (last c)) 0) off_hours on_hours) most_elapsed };
        upstage = cond (eqb (starting c l (last c)) 0) 0 (cond (ltb on_hours (UD c)) on_hours 0);
        downstage = sum (λ i. i * bit (closes c l i)) (DD c);
      }

-- a day of the same unit with these prices, orders and hours: it opens as the unit did, or with what a list leaves
abbrev pub another_day : Case → List Mills → List ℕ → ℕ → Case
another_day c prices orders hours = remade c (opening_of c) c.rise c.fall prices orders hours

abbrev pub next_day : Case → List ℕ → List Mills → List ℕ → ℕ → Case
next_day c l prices orders hours = remade c (leaves c l) c.rise c.fall prices orders hours

-- that day after the first, as one
abbrev pub both_days : Case → List Mills → List ℕ → ℕ → Case
both_days c prices orders hours =
    another_day c (listed (λ i. get_or c.prices i no_mills) (last c) ++ prices)
    (listed (λ i. get_or c.orders i 0) (last c) ++ orders) (last c + hours)
