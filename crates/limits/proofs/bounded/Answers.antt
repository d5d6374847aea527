-- `limits::bounded` meets its contract. Assumes nothing.
use Rattle.std.proofs.Common.{◌∙◌, ap, refl, sym, arith}
use mathlib.Core.Bool.{◌&&◌}
use Rattle.cases.specs.Layout.{no_mills}
use Rattle.std.specs.List.{list_all}
use Rattle.std.proofs.lemmas.List.{take_all}
use Rattle.limits.proofs.EveryLaws.{all_next}
use Rattle.limits.proofs.bounded.Goals as goal

pub loop-price-init : goal.loop-price-init
loop-price-init c = refl

pub loop-price-preserved : goal.loop-price-preserved
loop-price-preserved c =
    (λ i. c.loop-price.invariant i && c.amounts-so.ensures i)
    ∙ sym (all_next _ no_mills refl c.args.prices.now c.loop-price.price-index)

pub returns : goal.returns
returns c =
    c.loop-price.invariant
    ∙ ap (list_all _) (take_all c.loop-price.price-index c.args.prices.now (omega (arith, c.loop-price-test.false)))
