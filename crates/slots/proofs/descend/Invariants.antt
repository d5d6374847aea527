-- The layer is that of the hour reached, which is not before hour k.
use Prim.Native.Nat.{◌≤◌}
use Rattle.machine.specs.Moves.{worth}
use Rattle.cells.specs.Ahead.{tariffs}
use Rattle.cells.specs.Table.{Layer}
use Rattle.slots.proofs.descend.Given as goal

abbrev pub invariant-loop-at : goal.invariant-loop-at
invariant-loop-at l =
    (l.at-start ≤ l.at) × Layer l.day.unit (worth l.day.unit (tariffs l.day) l.at) l.row l.side
