-- The row of hour h, with any hours to go from the hours after it on, as far as it can be come to from the minimum
-- output of the first of these hours, and the entries from h on.
use Prim.Native.Nat.{ℕ, ◌+◌, ◌-◌, ◌*◌, min}
use Rattle.machine.specs.Moves.{worth}
use Rattle.cells.specs.Ahead.{tariffs}
use Rattle.cells.specs.Table.{Row, Entries, cells_of}
use Rattle.layers.proofs.last_entries.Given as goal

abbrev pub invariant-loop-h : goal.invariant-loop-h
invariant-loop-h l =
    ((j : ℕ) → Row l.day.unit (worth l.day.unit (tariffs l.day) l.h) (j + (l.day.unit.hours.0 - l.h))
    (min (1 + (l.h - l.last.0) * l.day.unit.rampup.0) (cells_of l.day.unit)) l.row)
    × Entries l.day.unit (tariffs l.day) l.h l.entries
