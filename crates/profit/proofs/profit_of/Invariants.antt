-- The hours before an hour are added up.
use Rattle.profit.proofs.EarnedLaws.{Earned}
use Rattle.profit.proofs.profit_of.Given as goal

abbrev pub invariant-loop-k : goal.invariant-loop-k
invariant-loop-k l = Earned l.case.case l.list l.k l.total.0 l.was.0
