-- The invariant: `so` is the test of the sections passed.
use Rattle.std.proofs.Common.{◌≡◌}
use lib.Dec.{eqb}
use Rattle.cases.specs.Symbols.{every, before}
use Rattle.cases.specs.Layout.{offset_at, end_at}
use Rattle.reader.proofs.pairs.linked.Given as goal

abbrev pub invariant-loop-i : goal.invariant-loop-i
invariant-loop-i l =
    l.so ≡ every (λ i. eqb (offset_at l.file i) (end_at l.file (before i))) l.i
