-- `slots::copy_in`: number by number.
use native.Mathlib.Omega.{arith}
use mathlib.Core.Path.{◌≡◌}
use Rattle.window.proofs.RowLaws.{written_start, written_up}
use Rattle.slots.proofs.copy_in.Goals as goal

pub loop-i-init : goal.loop-i-init
loop-i-init c = written_start _ _ _ _ (omega arith)

pub loop-i-preserved : goal.loop-i-preserved
loop-i-preserved c =
    rw c.store.ensures (written_up _ c.loop-i.invariant (omega arith) (omega arith) c.value_at.ensures)

pub returns : goal.returns
returns c = let e : c.loop-i.i ≡ c.args.n = omega arith in rw e at c.loop-i.invariant
