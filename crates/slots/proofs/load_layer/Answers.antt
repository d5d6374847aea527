-- `slots::load_layer`: the row, and the side after it.
use Rattle.slots.proofs.Slots.{layer_of}
use Rattle.slots.proofs.load_layer.Goals as goal

pub returns : goal.returns
returns c =
    λ w k. layer_of w c.requires.fit c.args.off c.requires.u_in_bounds.0 c.requires.u_in_bounds.1 k
    (rw c.cells_of-n.ensures at c.copy_in.ensures) (rw c.cells_of-n.ensures at c.copy_in-2.ensures)
