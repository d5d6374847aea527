-- The invariant: `so` is the test of the orders passed.
use Rattle.std.proofs.Common.{◌≡◌, leb, take}
use Rattle.std.specs.List.{list_all}
use Rattle.cases.specs.Limits.{most_order}
use Rattle.limits.proofs.ordered.Given as goal

abbrev pub invariant-loop-order : goal.invariant-loop-order
invariant-loop-order l = l.so ≡ list_all (λ order. leb order most_order) (take l.order-index l.orders)
