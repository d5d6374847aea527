-- The numbers up to i are copied.
use Rattle.std.proofs.Common.{◌+◌, get_or, pos}
use Rattle.window.specs.Rows.{Written}
use Rattle.slots.proofs.copy_in.Given as goal

abbrev pub invariant-loop-i : goal.invariant-loop-i
invariant-loop-i l = Written l.initial.to l.to 0 l.i (λ h. get_or l.work (l.off + h) (pos 0))
