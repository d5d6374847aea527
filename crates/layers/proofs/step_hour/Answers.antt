-- `layers::step_hour` meets its contract, by what its parts ensure. Assumes nothing.
use mathlib.Core.Path.{◌≡◌}
use Prim.Native.Nat.{suc}
use Rattle.machine.specs.Moves.{earlier, Worths}
use Rattle.cells.specs.Ahead.{tariffs}
use Rattle.cells.specs.Table.{Sized, Layer, entry}
use Rattle.cells.proofs.Ends.{sized_at}
use Rattle.layers.proofs.EntryLaws.{layer_hour, entry_after}
use Rattle.layers.proofs.step_hour.Goals as goal

pub step-requires : goal.step-requires
step-requires c =
    let d = c.args.day.now in
    let k = c.args.k.0 in
    let (below, l, e) = c.requires.k_lt_hours in
    rw c.at-hour.ensures.unit (record {
      sized = (
        _,
        sized_at d.unit _ d.fit d.day.fair (suc k),
        l,
        entry_after d.unit _ k below e c.value_at-e.ensures,
      );
    })

pub returns : goal.returns
returns c =
    let d = c.args.day.now in
    let u = d.unit in
    let k = c.args.k.0 in
    let (below, l, e) = c.requires.k_lt_hours in
    let back : (w : Worths) → Sized w → Layer u w c.args.row.now c.args.side.now → c.value_at-e.result.0 ≡ entry u w
    → Layer u (earlier u (tariffs d k) w) c.step.new.row c.step.new.side =
    rw (c.at-hour.ensures.unit, c.at-hour.ensures.terms, c.at-hour.ensures.costs) at c.step.ensures in
    layer_hour u (tariffs d) k below
    (back _ (sized_at u _ d.fit d.day.fair (suc k)) l (entry_after u _ k below e c.value_at-e.ensures))
