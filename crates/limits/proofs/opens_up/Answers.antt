-- `limits::opens_up` meets its contract. The stage is within the array, since 2 does not apply and the stage is
-- within its own range. Assumes nothing.
use Rattle.std.proofs.Common.{◌∙◌, sym, ◌-◌, arith}
use Rattle.cases.proofs.LimitsLaws.{counts, within_true}
use Rattle.limits.proofs.opens_up.Goals as goal

pub opens_at-output-requires : goal.opens_at-output-requires
opens_at-output-requires c =
    let n = counts _ c.args.counted.now.counts in
    let s = within_true 1 (c.args.counted.now.case.now.rises - 1) c.from-stage.result
    (sym c.in_range.ensures ∙ c.if-not-in_range.false) in
    omega arith

pub overflow_sub-case : goal.overflow_sub-case
overflow_sub-case c = let n = counts _ c.args.counted.now.counts in omega arith
