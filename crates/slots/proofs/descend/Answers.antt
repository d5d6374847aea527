-- `slots::descend` meets its contract. Assumes nothing.
use native.Mathlib.Omega.{arith}
use Rattle.layers.proofs.EntryLaws.{layer_at}
use Rattle.slots.proofs.descend.Goals as goal

pub returns : goal.returns
returns c =
    layer_at c.args.day.now.unit _ (omega (arith, c.loop-at-test.false, c.loop-at.invariant.0)) c.loop-at.invariant.1
