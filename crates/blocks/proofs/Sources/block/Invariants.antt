-- The places from s to p have their most, and the others are as they were.
use Rattle.window.specs.Rows.{Written}
use Rattle.blocks.specs.Cuts.{top_of}
use Rattle.blocks.proofs.Sources.block.Given as goal

abbrev pub invariant-loop-p : goal.invariant-loop-p
invariant-loop-p l =
    let o = l.self in
    Written l.fn.row l.row l.s l.p (top_of o.old.now o.costs.now o.base o.n o.rd o.ru)
