-- The places from a to q offer `mark` at the most.
use Rattle.blocks.specs.Cuts.{Under}
use Rattle.blocks.proofs.Sources.lowest.Given as goal

abbrev pub invariant-loop-q : goal.invariant-loop-q
invariant-loop-q l = Under l.self.old.now l.self.costs.now l.at l.a l.q l.mark.0
