-- `amount` is the line's amount at i; the places below i are settled, and the others are as they were.
use Rattle.std.proofs.Common.{◌≡◌}
use Rattle.window.specs.Rows.{Written, cells, sloped, settled}
use Rattle.blocks.proofs.settle_row.Given as goal

abbrev pub invariant-loop-i : goal.invariant-loop-i
invariant-loop-i l = record {
  amount : l.amount.0 ≡ sloped l.line.first.0 l.line.slope.0 l.i;
  settled : Written l.fn.row l.row 0 l.i
      (λ k. settled (sloped l.line.first.0 l.line.slope.0 k) (cells l.fn.row k));
}
