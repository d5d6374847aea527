-- The hours since a start and since a stop, as they are carried from hour to hour. Definitions only. Assumes nothing.
use Rattle.std.specs.Prelude.{◌≡◌, List, ℕ, ◌+◌, ◌≤◌}
use Rattle.cases.specs.declared.Case.{Case}
use Rattle.cases.specs.Symbols.{before, h}
use Rattle.day.specs.Marks.{y, z}
use Rattle.day.specs.Rules.{hours_since}
use Rattle.broken.specs.declared.times.Since.{Since}

-- r are the hours, at hour k, since the latest hour before it that f marks
pub record Held (c : Case) (f : ℕ → ℕ) (k r : ℕ) : Type 0 where
  pub is : r ≡ hours_since (h c) f k (before k)
  pub most : r ≤ h c + k

-- at hour k of a list, since the latest start and since the latest stop
pub record Elapsed (c : Case) (l : List ℕ) (k : ℕ) (s : Since) : Type 0 where
  pub start : Held c (y c l) k s.start.0
  pub stop : Held c (z c l) k s.stop.0
