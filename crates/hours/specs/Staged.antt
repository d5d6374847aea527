-- A trajectory within the limits. Definitions only. Assumes nothing.
use Rattle.std.specs.Prelude.{List, ℕ, ◌≤◌}
use Rattle.quantities.specs.declared.Output.{Output}
use Rattle.cases.specs.Limits.{most_stages, most_output}
use Rattle.cases.specs.Symbols.{stage}

-- of n outputs
pub record Staged (l : List Output) (n : ℕ) : Type 0 where
  pub count : n ≤ most_stages
  pub most : (i : ℕ) → i ≤ n → stage l i ≤ most_output
