-- `unit::stops_early` meets its contract: the sums fit, by the limits. Assumes nothing.
use Rattle.std.proofs.Common.{arith}
use Rattle.cases.proofs.LimitsLaws.{limits_of_refusal_of}
use Rattle.cases.proofs.StagesLaws.{stages_le}
use Rattle.unit.proofs.stops_early.Goals as goal

pub overflow_cast-passed : goal.overflow_cast-passed
overflow_cast-passed c = let l = limits_of_refusal_of _ c.args.admitted.now.within in omega (arith, l.falls_le)

pub overflow_add-passed : goal.overflow_add-passed
overflow_add-passed c =
    let l = limits_of_refusal_of _ c.args.admitted.now.within in
    omega (arith, l.elapsed_le, l.falls_le)

pub overflow_add-asked : goal.overflow_add-asked
overflow_add-asked c =
    let l = limits_of_refusal_of _ c.args.admitted.now.within in
    omega (arith, (stages_le _ l).1, l.falls_le, l.minup_le)
