-- The orders of the hours passed are there, and 0 stands past them.
use Rattle.std.proofs.Common.{get_or}
use Rattle.cases.specs.Limits.{most_hours}
use Rattle.cases.proofs.FilledLaws.{Filled}
use Rattle.orders.specs.Marked.{one_of}
use Rattle.orders.proofs.merged.Given as goal

abbrev pub invariant-loop-k : goal.invariant-loop-k
invariant-loop-k l =
    Filled 0 (λ i. one_of (get_or l.ons i 0) (get_or l.offs i 0)) l.fn.day.hours.0 most_hours l.orders l.k
