-- The hours before an hour are counted.
use Rattle.day.specs.Marks.{z}
use Rattle.hours.proofs.MarkingLaws.{Marking}
use Rattle.hours.proofs.counts.count_stops.Given as goal

abbrev pub invariant-loop-k : goal.invariant-loop-k
invariant-loop-k l = Marking (z l.case.case l.list) l.k l.marks l.stops
