-- `unit::opening_of` meets its contract: the sums fit, by the limits. Assumes nothing.
use Rattle.std.proofs.Common.{arith}
use Rattle.cases.proofs.LimitsLaws.{limits_of_refusal_of}
use Rattle.unit.proofs.opening_of.Goals as goal

pub overflow_cast-done : goal.overflow_cast-done
overflow_cast-done c = let l = limits_of_refusal_of _ c.args.admitted.now.within in omega (arith, l.falls_le)

pub overflow_add-done : goal.overflow_add-done
overflow_add-done c =
    let l = limits_of_refusal_of _ c.args.admitted.now.within in
    omega (arith, l.elapsed_le, l.falls_le)

pub overflow_add-case : goal.overflow_add-case
overflow_add-case c = let l = limits_of_refusal_of _ c.args.admitted.now.within in omega (arith, l.minup_le)
