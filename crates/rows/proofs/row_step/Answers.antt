-- The row before a stop is thought of, and then with the stop. Assumes nothing.
use Rattle.rows.proofs.row_step.Goals as goal

pub leave-requires : goal.leave-requires
leave-requires c =
    let n = c.cells_of.ensures in
    let (w, x, e) = c.requires.across in
    record { sized = (w, x.sized, rw n at (c.open_row.ensures w 0 (rw n x)), e) }

pub returns : goal.returns
returns c =
    let n = c.cells_of.ensures in
    λ w x e. c.leave.ensures w x.sized (rw n at (c.open_row.ensures w 0 (rw n x))) e
