-- `unit::unit_of` meets its contract: the counts and the sums fit, by the limits. Assumes nothing.
use Rattle.std.proofs.Common.{arith}
use Rattle.cases.proofs.LimitsLaws.{limits_of_refusal_of}
use Rattle.unit.proofs.unit_of.Goals as goal

pub overflow_add-case : goal.overflow_add-case
overflow_add-case c = let l = limits_of_refusal_of _ c.args.admitted.now.within in omega (arith, l.minup_le)

pub overflow_add-case-2 : goal.overflow_add-case-2
overflow_add-case-2 c =
    let l = limits_of_refusal_of _ c.args.admitted.now.within in
    omega (arith, l.rises_le, l.falls_le)

pub overflow_cast-case : goal.overflow_cast-case
overflow_cast-case c =
    let l = limits_of_refusal_of _ c.args.admitted.now.within in
    omega (arith, l.rises_le, l.falls_le)

pub overflow_cast-result : goal.overflow_cast-result
overflow_cast-result c = let l = limits_of_refusal_of _ c.args.admitted.now.within in omega (arith, l.hours_le)

pub front-requires : goal.front-requires
front-requires c = let l = limits_of_refusal_of _ c.args.admitted.now.within in omega (arith, l.rises_le)

pub front-requires-2 : goal.front-requires-2
front-requires-2 c = let l = limits_of_refusal_of _ c.args.admitted.now.within in omega (arith, l.falls_le)
