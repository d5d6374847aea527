-- The margins of the first k hours are there, and 0 stands past them.
use Rattle.std.proofs.Common.{get_or, pos, ◌-ℤ◌}
use Rattle.cases.specs.Limits.{most_hours}
use Rattle.cases.specs.Layout.{no_mills}
use Rattle.cases.proofs.FilledLaws.{Filled}
use Rattle.unit.proofs.margins.Given as goal

abbrev pub invariant-loop-k : goal.invariant-loop-k
invariant-loop-k l = Filled (pos 0) (λ k. (get_or l.prices k no_mills).0 -ℤ l.variable.0) l.n most_hours l.to l.k
