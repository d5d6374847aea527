-- `limits::descends` meets its contract. The count is within the array, since 2 does not apply; entries are counted
-- from 1 in the definition. Assumes nothing.
use Rattle.std.proofs.Common.{arith}
use mathlib.Core.Bool.{◌&&◌}
use lib.Dec.{leb, eqb}
use Rattle.cases.specs.Refusals.{descends}
use Rattle.cases.proofs.LimitsLaws.{counts}
use Rattle.cases.proofs.RefusalsLaws.{stage_here, stage_last}
use Rattle.limits.proofs.descends.Goals as goal

pub overflow_sub-steps : goal.overflow_sub-steps
overflow_sub-steps c = let n = (counts _ c.args.counted.now.counts) in omega arith

pub offset_bounds-case-steps : goal.offset_bounds-case-steps
offset_bounds-case-steps c = let n = (counts _ c.args.counted.now.counts) in omega arith

pub bounds-case-steps : goal.bounds-case-steps
bounds-case-steps c = let n = (counts _ c.args.counted.now.counts) in omega arith

pub strict-requires : goal.strict-requires
strict-requires c = let n = (counts _ c.args.counted.now.counts) in omega arith

pub returns : goal.returns
unfolding descends
returns c =
    let case = c.args.counted.now.case.now in
    let n = counts _ c.args.counted.now.counts in
    let end = stage_last case.fall case.falls (omega arith) in
    λ j. eqb (stage_here case.fall 0 j) case.minimum.0 && (c.strict.ensures j && leb 1 (end j))
