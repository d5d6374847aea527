-- The hours before an hour are counted.
use Rattle.hours.specs.Counted.{start_of}
use Rattle.hours.proofs.MarkingLaws.{Marking}
use Rattle.hours.proofs.counts.count_starts.Given as goal

abbrev pub invariant-loop-n : goal.invariant-loop-n
invariant-loop-n l = Marking (start_of l.case.case l.list) l.n l.marks l.starts
