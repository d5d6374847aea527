-- Of the loop of `rows::lock_down`: the row is that of hour h, as far as it can be come to from the first m cells of
-- hour k. Assumes nothing.
use Rattle.std.proofs.Common.{ℕ, ◌+◌, ◌-◌, ◌*◌, ◌≤◌, min}
use Rattle.machine.specs.Moves.{worth}
use Rattle.cells.specs.Ahead.{tariffs}
use Rattle.cells.specs.Table.{Row, cells_of}
use Rattle.rows.proofs.lock_down.Given as goal

abbrev pub invariant-loop-h : goal.invariant-loop-h
invariant-loop-h l = record {
  above : l.k.0 ≤ l.h;
  row : (j : ℕ)
      → Row l.day.unit (worth l.day.unit (tariffs l.day) (l.fn.k.0 + l.fn.n.0)) j (cells_of l.day.unit) l.fn.row
      → Row l.day.unit (worth l.day.unit (tariffs l.day) l.h) (j + (l.fn.k.0 + l.fn.n.0 - l.h))
      (min (l.m + (l.h - l.k.0) * l.day.unit.rampup.0) (cells_of l.day.unit)) l.row;
}
