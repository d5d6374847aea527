-- The comparisons of constraints (1) to (6), (11) and (12) on the numbers of an hour, in megawatts. Definitions only.
-- Assumes nothing.
use Rattle.std.specs.Prelude.{Bool, ℕ, ◌+◌, ◌*◌, leb}
use Rattle.hours.specs.declared.Numbers.{Numbers}
use Rattle.hours.specs.declared.stages.Sequence.{Sequence}

-- (1) and (2): the least output, by the sequence that prescribes one
abbrev pub above_least : ℕ → Numbers → Sequence → Bool
above_least low n s =
    leb (low * n.marks.online + s.output.0) (n.output.0 + low * (n.shutdown.marks + n.startup.marks))

-- (3) and (4): the greatest output, by the sequence that prescribes one
abbrev pub below_most : ℕ → Numbers → Sequence → Bool
below_most high n s = leb (n.output.0 + high * s.marks) (s.output.0 + high * n.marks.online)

-- (5) and (6): the ramp from the lower output to the higher, waived in the hours of a sequence
abbrev pub within_ramp : ℕ → ℕ → ℕ → ℕ → ℕ → ℕ → Bool
within_ramp high ramp lower higher waived online =
    leb (higher + ramp * waived) (lower + (high * waived + ramp * online))

-- (11) and (12): a start-up and a shut-down meet at the minimum output, where PU ends and PD begins
abbrev pub meets_low : ℕ → Numbers → Bool
meets_low low n = leb (low * (n.shutdown.marks + n.startup.marks)) (n.output.0 + low)
