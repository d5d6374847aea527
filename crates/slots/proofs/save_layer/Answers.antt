-- `slots::save_layer`: the row, and the side after it.
use Rattle.slots.proofs.Slots.{kept_of}
use Rattle.slots.proofs.save_layer.Goals as goal

pub returns : goal.returns
returns c =
    λ w l. kept_of w c.args.off l (rw c.cells_of-n.ensures at c.copy_out.ensures)
    (rw c.cells_of-n.ensures at c.copy_out-2.ensures)
