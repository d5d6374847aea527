-- `slots::copy_out`: number by number.
use native.Mathlib.Omega.{arith}
use mathlib.Core.Path.{◌≡◌}
use lib.IntN.{pos}
use Rattle.laws.proofs.PlacedLaws.{part_start, part_up}
use Rattle.slots.proofs.copy_out.Goals as goal

pub loop-i-init : goal.loop-i-init
loop-i-init c = part_start (pos 0) _ _ _ _ _ (omega arith)

pub loop-i-preserved : goal.loop-i-preserved
loop-i-preserved c =
    rw c.store.ensures (part_up (pos 0) _ c.loop-i.invariant (omega arith) (omega arith) c.value_at.ensures)

pub returns : goal.returns
returns c = let e : c.loop-i.i ≡ c.args.n = omega arith in rw e at c.loop-i.invariant
