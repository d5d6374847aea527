-- The invariant of `search::walk`: the outputs before hour k are those of the plan, and what is kept holds from hour k
-- on. Assumes nothing.
use Rattle.cells.specs.Ahead.{tariffs}
use Rattle.locks.specs.Held.{Holds}
use Rattle.search.proofs.Walked.{Walked}
use Rattle.search.proofs.walk.Given as goal

abbrev pub invariant-loop-k : goal.invariant-loop-k
invariant-loop-k l = record {
  walked : Walked l.passed.day.unit (tariffs l.passed.day) 1 l.initial.at l.initial.outputs l.outputs l.k l.at;
  holds : Holds l.passed.day.unit (tariffs l.passed.day) l.k l.held.end.0 l.held.to.0 l.held.numbers;
}
