-- The first n numbers of the table are entries, and the others are as they were.
use Rattle.std.proofs.Common.{◌≡◌, ◌++◌, drop}
use Rattle.curve.specs.Cost.{curved_of, entry_of, firsts}
use Rattle.costs.proofs.fill.Given as goal

abbrev pub invariant-loop-n : goal.invariant-loop-n
invariant-loop-n l = l.table ≡ firsts l.n (entry_of (curved_of l.curve)) ++ drop l.n l.initial.table
