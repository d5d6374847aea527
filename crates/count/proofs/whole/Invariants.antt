-- The size is taken off n times, and the rest is left.
use Rattle.std.proofs.Common.{◌≡◌, ◌+◌, ◌*◌, ◌≤◌}
use Rattle.count.proofs.whole.Given as goal

abbrev pub invariant-loop-left : goal.invariant-loop-left
invariant-loop-left l = (l.amount ≡ l.left + l.size * l.n) × (l.left + l.n ≤ l.amount)

abbrev pub decreases-loop-left : goal.decreases-loop-left
decreases-loop-left l = l.left
