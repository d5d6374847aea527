-- The invariant of `spans::fill`: the layer is that of hour h, and the layers from hour h on are kept. Assumes nothing.
use Rattle.machine.specs.Moves.{worth}
use Rattle.cells.specs.Ahead.{tariffs}
use Rattle.cells.specs.Table.{Layer}
use Rattle.slots.specs.Spanned.{Spanned}
use Rattle.spans.proofs.fill.Given as goal

abbrev pub invariant-loop-h : goal.invariant-loop-h
invariant-loop-h l = record {
  made : Layer l.passed.day.unit (worth l.passed.day.unit (tariffs l.passed.day) l.h) l.row l.side;
  spanned : Spanned l.passed.day.unit (tariffs l.passed.day) l.h l.to.0 l.kept;
}
