-- `limits::refusal13` meets its contract. The hours have room in the array, since 2 does not apply. Assumes nothing.
use Rattle.std.proofs.Common.{◌∙◌, ap, refl, arith, pos, neg_ℤ}
use mathlib.Core.Bool.{not}
use Rattle.cases.specs.Limits.{most_price}
use Rattle.cases.specs.Layout.{no_mills}
use Rattle.cases.specs.Refusals.{amounts, refusal13}
use Rattle.cases.proofs.LimitsLaws.{counts}
use Rattle.cases.proofs.RefusalsLaws.{priced_here}
use Rattle.limits.proofs.EveryLaws.{all_every}
use Rattle.limits.proofs.refusal13.Goals as goal

pub shared_ref_as_front-prices : goal.shared_ref_as_front-prices
shared_ref_as_front-prices c = omega (arith, counts _ c.args.counted.now.counts)

pub returns : goal.returns
unfolding refusal13
returns c =
    let case = c.args.counted.now.case.now in
    ap not
    (c.bounded.ensures ∙ all_every _ no_mills refl _ case.prices
    (λ i. ap (amounts (neg_ℤ (pos most_price)) (pos most_price)) (priced_here case.prices i)) case.hours)
