-- The invariant of `locks::fill`: the row is that of hour h, with as many hours to go as the end of the lock allows,
-- and the rows from hour h on are kept. Assumes nothing.
use Rattle.std.specs.Prelude.{ℕ, ◌≡◌, ◌+◌, min}
use Rattle.machine.specs.Moves.{worth}
use Rattle.machine.specs.Lengths.{most_places}
use Rattle.cells.specs.Ahead.{tariffs}
use Rattle.cells.specs.Table.{Row, cells_of}
use Rattle.locks.specs.Locked.{Locked, lock_end}
use Rattle.locks.proofs.fill.Given as goal

abbrev pub invariant-loop-h : goal.invariant-loop-h
invariant-loop-h l = record {
  limit : l.to.0 ≡ min l.b.0 (l.fn.k.0 + most_places);
  made : (j : ℕ) → l.b.0 ≡ lock_end l.day.unit l.h j
      → Row l.day.unit (worth l.day.unit (tariffs l.day) l.h) j (cells_of l.day.unit) l.row;
  locked : Locked l.day.unit (tariffs l.day) l.h l.to.0 l.b.0 l.held.numbers;
}
