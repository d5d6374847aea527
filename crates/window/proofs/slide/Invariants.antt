-- The answers are carried on to before `reach.at`, which is not past z.
use Rattle.std.proofs.Common.{◌-◌, ◌≤◌}
use Rattle.window.specs.Slides.{Carried}
use Rattle.window.proofs.slide.Given as goal

abbrev pub invariant-loop-reach : goal.invariant-loop-reach
invariant-loop-reach l = record {
  within : l.reach.at ≤ l.z;
  carried : Carried l.fn.row l.row l.scratch l.shape.n l.shape.rd l.shape.ru l.shape.line.slope.0 l.z
      l.fn.start.at l.fn.start.top.0 l.fn.start.amount.0 l.reach.at l.reach.top.0 l.reach.amount.0;
}

abbrev pub decreases-loop-reach : goal.decreases-loop-reach
decreases-loop-reach l = l.z - l.reach.at
