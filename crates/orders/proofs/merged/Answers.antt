-- Hour after hour has its order.
use Rattle.std.proofs.Common.{arith}
use Rattle.cases.specs.Limits.{most_hours}
use Rattle.cases.proofs.FilledLaws.{filled_start, filled_step, filled_end}
use Rattle.orders.proofs.merged.Goals as goal

pub loop-k-init : goal.loop-k-init
loop-k-init c = filled_start 0 _ _ most_hours

pub loop-k-preserved : goal.loop-k-preserved
loop-k-preserved c =
    filled_step 0 _ c.args.day.hours.0 most_hours c.one_of.result c.loop-k.invariant (omega arith) (omega arith)
    c.one_of.ensures

pub returns : goal.returns
returns c = filled_end 0 _ c.args.day.hours.0 most_hours c.loop-k.invariant (omega arith)
