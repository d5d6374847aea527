-- The places before s have their most.
use Rattle.std.proofs.Common.{◌≤◌}
use Rattle.window.specs.Rows.{Written}
use Rattle.blocks.specs.Cuts.{top_of}
use Rattle.blocks.proofs.Sources.fill.Given as goal

abbrev pub invariant-loop-s : goal.invariant-loop-s
invariant-loop-s l = record {
  within : l.s ≤ l.n;
  high : l.k.high ≤ l.n;
  filled : let o = l.self in
      Written l.fn.row l.row 0 l.s (top_of o.old.now o.costs.now o.base o.n o.rd o.ru);
}
