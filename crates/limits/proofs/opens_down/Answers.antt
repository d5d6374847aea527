-- `limits::opens_down` meets its contract. The stage is within the array, since 2 does not apply and the stage is
-- within its own range. Assumes nothing.
use Rattle.std.proofs.Common.{◌∙◌, sym, arith}
use Rattle.cases.proofs.LimitsLaws.{counts, within_true}
use Rattle.limits.proofs.opens_down.Goals as goal

pub opens_at-output-requires : goal.opens_at-output-requires
opens_at-output-requires c =
    let n = counts _ c.args.counted.now.counts in
    let s = within_true 2 c.args.counted.now.case.now.falls c.from-stage.result
    (sym c.in_range.ensures ∙ c.if-not-in_range.false) in
    omega arith

pub overflow_add-hours : goal.overflow_add-hours
overflow_add-hours c =
    let n = counts _ c.args.counted.now.counts in
    let s = within_true 2 c.args.counted.now.case.now.falls c.from-stage.result
    (sym c.in_range.ensures ∙ c.if-not-in_range.false) in
    omega arith
