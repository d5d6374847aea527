-- `layers::entry_from` meets its contract. Assumes nothing.
use native.Mathlib.Omega.{arith}
use mathlib.Core.Path.{refl, ◌∙◌}
use Rattle.cells.proofs.Ends.{row_at, entry_at}
use Rattle.layers.proofs.entry_from.Goals as goal

pub returns : goal.returns
returns c =
    let u = c.args.day.now.unit in
    c.first_of.ensures
    ∙ entry_at u _ _ (omega arith) (row_at u _ refl (omega arith) (c.lock_down.ensures 0 c.requires.lock_bound.1))
