-- What a search of a case answers and leaves, by what an hour costs at its energy. Definitions only. Assumes nothing.
use Rattle.std.specs.Prelude.{List, ℕ, ℤ}
use Rattle.cases.specs.declared.Case.{Case}
use Rattle.day.specs.Profit.{profit_by}
use Rattle.model.specs.Best.{best_by}
use Rattle.model.specs.Answers.{Scheduling, planned}

abbrev pub searched_by : (ℕ → ℤ) → Case → List ℤ → List ℕ → Scheduling
searched_by cost c work outputs = planned c (profit_by cost c) work outputs (best_by (profit_by cost c) c)
