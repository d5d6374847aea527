-- `limits::refusal8` meets its contract. The hours have room in the array, since 2 does not apply. Assumes nothing.
use Rattle.std.proofs.Common.{◌∙◌, ap, refl, arith, leb}
use mathlib.Core.Bool.{not}
use Rattle.cases.specs.Limits.{most_order}
use Rattle.cases.specs.Refusals.{refusal8}
use Rattle.cases.proofs.LimitsLaws.{counts}
use Rattle.cases.proofs.RefusalsLaws.{hourly_here}
use Rattle.limits.proofs.EveryLaws.{all_every}
use Rattle.limits.proofs.refusal8.Goals as goal

pub shared_ref_as_front-orders : goal.shared_ref_as_front-orders
shared_ref_as_front-orders c = omega (arith, counts _ c.args.counted.now.counts)

pub returns : goal.returns
unfolding refusal8
returns c =
    let case = c.args.counted.now.case.now in
    ap not
    (c.ordered.ensures ∙ all_every _ 0 refl _ case.orders
    (λ i. ap (λ x. leb x most_order) (hourly_here case.orders i)) case.hours)
