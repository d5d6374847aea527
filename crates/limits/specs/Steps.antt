-- A step of a trajectory. Definitions only. Assumes nothing.
use Rattle.std.specs.Prelude.{Bool, cond, ℕ, ltb}

-- the output a comes before b on the way up, or on the way down, with no two alike
abbrev pub stepped : Bool → ℕ → ℕ → Bool
stepped up a b = cond up (ltb a b) (ltb b a)
