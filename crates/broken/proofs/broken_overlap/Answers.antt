-- `broken::broken_overlap` meets its contract: each test is its rule, and the first that fails has its number.
-- Assumes nothing.
use Rattle.std.proofs.Common.{◌∙◌}
use Rattle.cases.proofs.LimitsLaws.{limits_of_refusal_of}
use Rattle.broken.proofs.FirstLaws.{rest, next, tried}
use Rattle.broken.proofs.NumbersLaws.{rule10_of, rule11_of, rule12_of}
use Rattle.broken.proofs.broken_overlap.Goals as goal

pub returns : goal.returns
returns c =
    let a = c.args.hour.now.counts.case.now in
    let limits = limits_of_refusal_of a.case a.within in
    let h = c.args.hour.now.numbered in
    λ rs e. tried
    (next c.first-2.ensures (rule10_of h c.both.ensures)
    (next c.first-eleven.ensures (c.meets_low-met.ensures ∙ rule11_of h limits)
    (next c.first.ensures (c.meets_low-met.ensures ∙ rule12_of h limits) (rest e))))
