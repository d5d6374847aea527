-- `unit::margins` meets its contract. Assumes nothing.
use Rattle.std.proofs.Common.{pos, arith}
use Rattle.cases.specs.Limits.{most_hours}
use Rattle.cases.proofs.FilledLaws.{filled_start, filled_step, filled_end}
use Rattle.unit.proofs.margins.Goals as goal

pub loop-k-init : goal.loop-k-init
loop-k-init c = rw c.requires.1 (filled_start (pos 0) _ _ most_hours)

pub loop-k-preserved : goal.loop-k-preserved
loop-k-preserved c =
    rw c.store.ensures
    (filled_step (pos 0) _ c.args.n most_hours c.margin.result.0 c.loop-k.invariant (omega arith) (omega arith)
    c.margin.ensures)

pub returns : goal.returns
returns c = filled_end (pos 0) _ c.args.n most_hours c.loop-k.invariant (omega arith)
