-- A table of costs that rises evenly. Definitions only. Assumes nothing.
use Rattle.std.specs.Prelude.{◌≡◌, List, ℕ, ◌≤◌, ℤ, pos, ◌+ℤ◌, ◌*ℤ◌}
use Rattle.machine.specs.Moves.{cost_at}

-- up to n half-megawatt-hours each costs as much as the one before it
pub record Even (costs : List ℤ) (step : ℤ) (n : ℕ) : Type 0 where
  pub at : (k : ℕ) → k ≤ n → cost_at costs k ≡ cost_at costs 0 +ℤ step *ℤ pos k
