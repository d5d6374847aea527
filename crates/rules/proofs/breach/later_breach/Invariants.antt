-- The hours of the day up to an hour break no rule.
use Rattle.std.proofs.Common.{◌+◌}
use Rattle.rules.proofs.BreachLaws.{Kept}
use Rattle.rules.proofs.breach.later_breach.Given as goal

abbrev pub invariant-loop-i : goal.invariant-loop-i
invariant-loop-i l = Kept l.counts.case.now.case l.counts.list.now (l.i + 1) l.since
