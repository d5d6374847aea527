-- The layer is that of hour k, and so are the entries and the kept layers.
use Prim.Native.Nat.{◌-◌}
use Rattle.machine.specs.Moves.{worth}
use Rattle.cells.specs.Ahead.{tariffs}
use Rattle.cells.specs.Table.{Layer, Entries}
use Rattle.slots.specs.Saved.{Saved}
use Rattle.backward.proofs.all_entries.Given as goal

abbrev pub invariant-loop-k : goal.invariant-loop-k
invariant-loop-k l = record {
  layer : Layer l.day.unit (worth l.day.unit (tariffs l.day) l.k) l.row l.side;
  entered : Entries l.day.unit (tariffs l.day) (l.k - l.day.unit.lock.0) l.entries;
  saved : Saved l.day.unit (tariffs l.day) l.fn.l.0 l.fn.n l.k l.work;
}
