-- The entries up to n lie on the line.
use Rattle.curves.specs.Even.{Even}
use Rattle.curves.proofs.split.even.Given as goal

abbrev pub invariant-loop-n : goal.invariant-loop-n
invariant-loop-n l = Even l.costs l.step.0 l.n
