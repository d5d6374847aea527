-- The calendar of a year (request F-3): windows in which the unit is ordered on-line or off-line, a day whose orders
-- are filled from them, and what the search of that day answers and leaves. Hours of the year count from 0, those of
-- the day from 1. Definitions only. Assumes nothing.
use Rattle.std.specs.Prelude.{Bool, true, false, ◌&&◌, ◌||◌, not, cond, List, [], ◌∷◌, ℕ, ◌+◌, leb, ltb, eqb, ℤ}
use Rattle.std.specs.Prelude.{Err, Ok}
use Rattle.cases.specs.declared.Case.{Case}
use Rattle.cases.specs.Limits.{most_hours, year_hours, short_day, long_day}
use Rattle.cases.specs.Symbols.{every, before, last}
use Rattle.cases.specs.Layout.{padded, with_arrays}
use Rattle.cases.specs.Refusals.{within, first_of, tests}
use Rattle.model.specs.Answers.{Scheduling, schedule_of}
use Rattle.cases.specs.Reads.{Outcome, Refused}

-- A list has two numbers for each window, its first hour and how many hours it has. Windows are whole, none is empty or
-- ends past the year, and each begins at hour `from` or later, which is where the one before it ends
unfoldable pub windows_from : ℕ → List ℕ → Bool
windows_from from [] = true
windows_from from (first ∷ []) = false
windows_from from (first ∷ n ∷ more) =
    leb from first && (leb 1 n && (leb (first + n) year_hours && windows_from (first + n) more))

-- a window of n hours holds hour t of the year: its first hour and those after it, and not the hour after its last
unfoldable pub spans : ℕ → ℕ → ℕ → Bool
spans first n t = leb first t && ltb t (first + n)

-- a window of the list holds hour t
unfoldable pub covers : List ℕ → ℕ → Bool
covers [] t = false
covers (first ∷ []) t = false
covers (first ∷ n ∷ more) t = spans first n t || covers more t

-- the order of hour t of the year: 1 in a window of the first list, 2 in one of the second, 0 in none
unfoldable pub order_in : List ℕ → List ℕ → ℕ → ℕ
order_in on off t = cond (covers on t) 1 (cond (covers off t) 2 0)

-- a day of the year, by its first hour: it has 23 to 25 hours and ends within the year
abbrev pub is_day : ℕ → ℕ → Bool
is_day first hours = within short_day long_day hours && leb (first + hours) year_hours

-- the on-line and the off-line windows, and a day
module _ (on off : List ℕ) (first hours : ℕ) where
  -- the day, or the windows of either list
  unfoldable pub refusal14 : Bool
  refusal14 = not (is_day first hours && (windows_from 0 on && windows_from 0 off))

  -- an hour of the day in both lists
  unfoldable pub refusal15 : Bool
  refusal15 = not (every (λ k. not (covers on (first + before k) && covers off (first + before k))) hours)

  -- the tests of lists and day, and then further ones
  unfoldable pub calendar_tests : List (ℕ × Bool) → List (ℕ × Bool)
  calendar_tests more = (14, refusal14) ∷ (15, refusal15) ∷ more

  -- the orders of the day; 0 past it
  unfoldable pub filled_orders : List ℕ
  filled_orders = padded 0 (λ i. order_in on off (first + i)) hours most_hours

-- the tests of a record by calendar: T is the day's number of hours, or it is 2, and then its own tests, its own orders
-- among them. A refused reading stops the call
abbrev pub day_tests : ℕ → Outcome → Case → List (ℕ × Bool)
day_tests hours (Ok tt) c = (2, not (eqb (last c) hours)) ∷ tests c []
day_tests hours (Err n) c = []

-- `schedule_by_calendar`: 14 and 15 before any case; then the search of the record with the orders of the day
unfoldable pub calendar_of : Outcome → Case → List ℕ → List ℕ → ℕ → ℕ → List ℤ → List ℕ → Scheduling
calendar_of o c on off first hours work outputs =
    let n = first_of (calendar_tests on off first hours (day_tests hours o c)) in
    let day = with_arrays c c.rise c.fall c.prices (filled_orders on off first hours) in
    let plan = schedule_of o day work outputs in
    cond (eqb n 0) plan (record { answer = Refused n; work = work; outputs = outputs })
