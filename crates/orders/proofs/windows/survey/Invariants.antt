-- What is left of the list stands by itself after the windows passed, and the hours that those hold are marked.
use Rattle.std.proofs.Common.{length}
use Rattle.orders.proofs.SurveyLaws.{Surveyed}
use Rattle.orders.proofs.windows.survey.Given as goal

abbrev pub invariant-loop-rest : goal.invariant-loop-rest
invariant-loop-rest l = Surveyed l.day.first.0 l.day.hours.0 l.order l.list l.initial.marks l.marks l.from.0 l.rest

abbrev pub decreases-loop-rest : goal.decreases-loop-rest
decreases-loop-rest l = length l.rest
