-- The hours above T before an hour break no rule.
use Rattle.rules.proofs.BreachLaws.{KeptLate}
use Rattle.rules.proofs.breach.late_breach.Given as goal

abbrev pub invariant-loop-k : goal.invariant-loop-k
invariant-loop-k l = KeptLate l.counts.case.now.case l.counts.list.now l.k l.start.0
