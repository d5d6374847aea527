-- The places from q to b offer `mark` at the most.
use Rattle.blocks.specs.Cuts.{Under}
use Rattle.blocks.proofs.Sources.highest.Given as goal

abbrev pub invariant-loop-q : goal.invariant-loop-q
invariant-loop-q l = Under l.self.old.now l.self.costs.now l.at l.q l.b l.mark.0
