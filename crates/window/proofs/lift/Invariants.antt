-- t is the line's amount at i; the places below i are lifted, and the others are as they were.
use Rattle.std.proofs.Common.{◌≡◌, ◌+ℤ◌}
use Rattle.window.specs.Rows.{Written, cells, sloped}
use Rattle.window.proofs.lift.Given as goal

abbrev pub invariant-loop-i : goal.invariant-loop-i
invariant-loop-i l = record {
  line : l.t.0 ≡ sloped l.line.first.0 l.line.slope.0 l.i;
  lifted : Written l.fn.row l.row 0 l.i
      (λ k. sloped l.line.first.0 l.line.slope.0 k +ℤ cells l.fn.row k);
}
