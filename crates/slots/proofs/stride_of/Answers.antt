-- `slots::stride_of` meets its contract, by the slots that were counted. Assumes nothing.
use mathlib.Core.Path.{sym, ap, ◌∙◌, subst}
use Prim.Native.Nat.{◌+◌, ◌-◌, ◌/◌}
use Rattle.slots.specs.Saved.{Slotted}
use Rattle.slots.proofs.Strides.{slotted_of}
use Rattle.slots.proofs.stride_of.Goals as goal

pub returns : goal.returns
returns c =
    let u = c.args.u in
    let (width, one, most) = c.requires.n_value in
    let stride = c.whole.ensures ∙ ap (λ m. (u.hours.0 + m - 1) / m) c.up_to-m.ensures in
    subst (λ l. Slotted u l c.args.n c.args.room) (sym stride)
    (slotted_of u c.requires.fit c.args.n c.args.room width one most)
