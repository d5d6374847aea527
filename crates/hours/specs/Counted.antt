-- Running counts of marked hours. Definitions only. Assumes nothing.
use Rattle.std.specs.Prelude.{◌≡◌, List, ℕ, zero, suc, ◌+◌, ◌-◌, ◌*◌, ◌≤◌, length, get_or}
use Rattle.cases.specs.declared.Case.{Case}
use Rattle.cases.specs.Limits.{most_stages, most_hours}
use Rattle.day.specs.Marks.{y_back, z}

-- places of the counts: the hours of a day, and the longest start-up and shut-down around them; the last of them
abbrev pub counts_length : ℕ
counts_length = most_hours + 2 * most_stages

abbrev pub last_count : ℕ
last_count = counts_length - 1

-- marks of the hours before hour k, hour 0 included
unfoldable pub counted : (ℕ → ℕ) → ℕ → ℕ
counted f zero = 0
counted f (suc k) = counted f k + f k

-- f marks no hour twice and not hour 0, and the places up to place n have its counts
pub record Running (f : ℕ → ℕ) (n : ℕ) (xs : List ℕ) : Type 0 where
  pub long : length xs ≡ counts_length
  pub none : f 0 ≡ 0
  pub once : (k : ℕ) → f k ≤ 1
  pub at : (k : ℕ) → k ≤ n → get_or xs k 0 ≡ counted f k

-- the mark of a start in hour n − mostStages: the hours below 1 that a start-up reaches back to come first
abbrev pub start_of : Case → List ℕ → ℕ → ℕ
start_of c l n = y_back c l n (suc most_stages)

-- the counts of the starts and of the stops of a list
pub record Counted (c : Case) (l : List ℕ) (ups downs : List ℕ) : Type 0 where
  pub starts : Running (start_of c l) last_count ups
  pub stops : Running (z c l) last_count downs
