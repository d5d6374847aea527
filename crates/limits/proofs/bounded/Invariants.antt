-- The invariant: `so` is the test of the prices passed.
use Rattle.std.proofs.Common.{◌≡◌, neg_ℤ, pos, take}
use Rattle.std.specs.List.{list_all}
use Rattle.cases.specs.Limits.{most_price}
use Rattle.cases.specs.Refusals.{amounts}
use Rattle.limits.proofs.bounded.Given as goal

abbrev pub invariant-loop-price : goal.invariant-loop-price
invariant-loop-price l =
    l.so ≡ list_all (λ price. amounts (neg_ℤ (pos most_price)) (pos most_price) price.0) (take l.price-index l.prices)
