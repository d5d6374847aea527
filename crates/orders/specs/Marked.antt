-- Marks of the hours of a day that windows hold. Definitions only. Assumes nothing.
use Rattle.std.specs.Prelude.{◌&&◌, cond, List, [], ◌∷◌, ℕ, ◌+◌, ltb, eqb, get_or}
use Rattle.cases.specs.Limits.{most_hours}
use Rattle.cases.specs.Layout.{listed}
use Rattle.model.specs.Calendar.{spans}

-- the mark of an hour that has one of two, or else 0
abbrev pub one_of : ℕ → ℕ → ℕ
one_of a b = cond (eqb a 0) b a

-- a day of so many hours, from an hour of the year on, and the mark that its hours are given
module _ (day hours mark : ℕ) where
  -- the marks with those of the day's hours that a window of n hours holds
  unfoldable pub marked : ℕ → ℕ → List ℕ → List ℕ
  marked first n marks =
      listed (λ i. cond (ltb i hours && spans first n (day + i)) mark (get_or marks i 0)) most_hours

  -- and with those of the hours that the windows of a list hold, one window after the other
  unfoldable pub overlaid : List ℕ → List ℕ → List ℕ
  overlaid [] marks = marks
  overlaid (first ∷ []) marks = marks
  overlaid (first ∷ n ∷ more) marks = overlaid more (marked first n marks)
