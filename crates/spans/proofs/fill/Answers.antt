-- `spans::fill` meets its contract: a turn keeps one layer more. Assumes nothing.
use Rattle.std.proofs.Common.{arith, ℕ, suc, ◌-◌, ◌≤◌}
use Rattle.machine.specs.Lengths.{row_length}
use Rattle.cells.specs.Ahead.{tariffs}
use Rattle.cells.specs.Table.{cells_of}
use Rattle.slots.proofs.SpannedLaws.{spanned_from, spanned_step}
use Rattle.spans.proofs.fill.Goals as goal

pub loop-h-preserved : goal.loop-h-preserved
loop-h-preserved c =
    let day = c.args.passed.now.day in
    let h : ℕ = c.loop-h.h - 1 in
    let wide : cells_of day.unit ≤ row_length = let f = day.fit in omega (arith, f.capacity_le, f.minimum_pos) in
    record {
      made = c.step_hour.ensures;
      spanned = spanned_step day.unit (tariffs day) h _ (omega arith) wide
          (c.save_layer.ensures _ c.step_hour.ensures)
          (spanned_from day.unit (tariffs day) (suc h) (omega arith) c.loop-h.invariant.spanned);
    }
