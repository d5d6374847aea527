-- The numbers up to i are copied, and the others are as they were.
use Rattle.std.proofs.Common.{get_or, pos}
use Rattle.laws.specs.Placed.{Part}
use Rattle.slots.proofs.copy_out.Given as goal

abbrev pub invariant-loop-i : goal.invariant-loop-i
invariant-loop-i l = Part (pos 0) l.initial.work l.work l.off 0 l.i (λ h. get_or l.from h (pos 0))
