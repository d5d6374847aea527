-- The places from a to i are empty, and the others are as they were.
use Rattle.std.proofs.Common.{◌≤◌, max}
use Rattle.machine.specs.Coded.{missing}
use Rattle.window.specs.Rows.{Written}
use Rattle.window.proofs.empty.Given as goal

abbrev pub invariant-loop-i : goal.invariant-loop-i
invariant-loop-i l = record {
  high : l.i ≤ max l.a l.b;
  emptied : Written l.fn.row l.row l.a l.i (λ k. missing);
}
