-- `limits::ordered` meets its contract. Assumes nothing.
use Rattle.std.proofs.Common.{◌∙◌, ap, refl, sym, arith, leb, get_or}
use mathlib.Core.Bool.{◌&&◌}
use Rattle.cases.specs.Limits.{most_order}
use Rattle.std.specs.List.{list_all}
use Rattle.std.proofs.lemmas.List.{take_all}
use Rattle.limits.proofs.EveryLaws.{all_next}
use Rattle.limits.proofs.ordered.Goals as goal

pub loop-order-init : goal.loop-order-init
loop-order-init c = refl

pub loop-order-preserved : goal.loop-order-preserved
loop-order-preserved c =
    let orders = c.args.orders.now in
    ap (λ so. so && leb (get_or orders c.loop-order.order-index 0) most_order) c.loop-order.invariant
    ∙ sym (all_next _ 0 refl orders c.loop-order.order-index)

pub returns : goal.returns
returns c =
    c.loop-order.invariant
    ∙ ap (list_all _) (take_all c.loop-order.order-index c.args.orders.now (omega (arith, c.loop-order-test.false)))
