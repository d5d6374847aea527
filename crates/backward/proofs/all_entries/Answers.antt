-- `backward::all_entries` meets its contract. Assumes nothing.
use native.Mathlib.Omega.{arith}
use mathlib.Core.Path.{◌≡◌, subst}
use Prim.Native.Nat.{suc, ◌-◌}
use Rattle.cells.specs.Ahead.{tariffs}
use Rattle.slots.specs.Saved.{Saved}
use Rattle.slots.proofs.Slots.{saved_start}
use Rattle.backward.proofs.all_entries.Goals as goal

pub loop-k-init : goal.loop-k-init
loop-k-init c =
    let a = c.args in
    record {
      layer = record { row = c.end_row.ensures _ 0; side = c.end_side.ensures _ };
      entered = c.last_entries.ensures;
      saved = saved_start a.day.now.unit a.l.0 a.n c.requires.slotted.0 _;
    }

pub loop-k-preserved : goal.loop-k-preserved
loop-k-preserved c =
    let a = c.args in
    let l = c.loop-k in
    let d = a.day.now in
    let up : l.k ≡ suc (l.k - 1) = omega (arith, c.loop-k-test.true) in
    record {
      layer = c.step_hour.ensures;
      entered = c.enter.ensures;
      saved = c.save_if.ensures _ c.step_hour.ensures
          (subst (λ m. Saved d.unit (tariffs d) a.l.0 a.n m l.work) up l.invariant.saved);
    }
