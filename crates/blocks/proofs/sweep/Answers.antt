-- The row is filled from a copy of itself, then settled.
use Rattle.std.proofs.Common.{arith}
use Rattle.blocks.proofs.SweepLaws.{filled_topped, filled_swept}
use Rattle.blocks.proofs.sweep.Goals as goal

pub settle_row-requires-clause-n_in_bounds : goal.settle_row-requires-clause-n_in_bounds
settle_row-requires-clause-n_in_bounds c =
    let z = c.requires.sized in
    let w = c.fill.ensures in
    (omega (arith, z.long, w.long), z.few, filled_topped c.args.base z w c.requires.bent.0 c.requires.bent.1)

pub returns : goal.returns
returns c = filled_swept c.args.base c.requires.sized c.fill.ensures c.settle_row.ensures
