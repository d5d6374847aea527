-- One place more has its most.
use Rattle.std.proofs.Common.{◌∙◌, arith}
use Rattle.window.proofs.RowLaws.{written_up, written_to}
use Rattle.blocks.proofs.Sources.block.Goals as goal

pub loop-p-preserved : goal.loop-p-preserved
loop-p-preserved c =
    let p = c.loop-p.p in
    rw c.store.ensures
    (written_up _ c.loop-p.invariant (omega arith) (omega arith)
    (c.top_at.ensures ∙ c.requires.enough.is p (omega arith) (omega arith)))

pub returns : goal.returns
returns c = written_to (omega arith) c.loop-p.invariant
