-- `hours::counts::between` meets its contract: counts do not fall. Assumes nothing.
use Rattle.std.proofs.Common.{arith}
use Rattle.hours.proofs.CountLaws.{running_between}
use Rattle.hours.proofs.counts.between.Goals as goal

pub overflow_sub-result : goal.overflow_sub-result
overflow_sub-result c =
    let (f, r) = c.requires.by_index in
    rw (c.from.ensures, c.from-2.ensures) (running_between r c.args.from.0 c.args.to.0 (omega arith) (omega arith)).0

pub returns : goal.returns
returns c =
    λ f r.
    rw (c.from.ensures, c.from-2.ensures) (running_between r c.args.from.0 c.args.to.0 (omega arith) (omega arith)).1
