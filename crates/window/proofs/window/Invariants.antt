-- The blocks before `reach.at` have their answers, and the suffixes of the block there are in the scratch row.
use Rattle.std.proofs.Common.{◌≡◌, ◌-◌, ◌≤◌, length}
use Rattle.machine.specs.Coded.{missing}
use Rattle.window.specs.Slides.{Slides}
use Rattle.window.proofs.window.Given as goal

abbrev pub invariant-loop-reach : goal.invariant-loop-reach
invariant-loop-reach l = record {
  within : l.reach.at ≤ l.n;
  long : length l.scratch ≡ length l.fn.scratch;
  slides : Slides l.fn.row l.shape.line.first.0 l.shape.line.slope.0 l.n l.rd l.ru l.reach.at l.row l.scratch l.reach.at
      missing l.reach.amount.0;
}

abbrev pub decreases-loop-reach : goal.decreases-loop-reach
decreases-loop-reach l = l.n - l.reach.at
