-- The product, the difference and the sum stay within 64 bits. Assumes nothing.
use Rattle.std.proofs.Common.{◌+◌, ◌*◌, ◌≤◌, nat_abs, arith, refl}
use Rattle.laws.proofs.Magnitude.{abs_add, abs_sub}
use Rattle.machine.specs.Bounds.{most_ends, most_cost, most_margin}
use Rattle.machine.specs.Moves.{head}
use Rattle.machine.proofs.Table.Sizes.{product_abs}
use Rattle.cells.proofs.ahead.HourAhead.head_of.Goals as goal

pub returns : goal.returns
unfolding head
returns c =
    let fair = c.args.self.now.fair in
    let sold : nat_abs c.multiple-sold.result.0 ≤ most_margin * most_ends =
    rw c.multiple-sold.ensures (product_abs fair c.args.n (omega (arith, c.requires))) in
    let left : nat_abs c.difference.result.0 ≤ most_margin * most_ends + most_cost =
    rw c.difference.ensures
    (omega (arith, abs_sub c.multiple-sold.result.0 c.args.self.now.terms.charges.holds.0, sold, fair.holds_le)) in (
      rw (c.sum.ensures, c.difference.ensures, c.multiple-sold.ensures, c.cost_at.ensures.0) refl,
      rw c.sum.ensures
          (omega (arith, abs_add c.difference.result.0 c.cost_at.result.0, left, c.cost_at.ensures.1)),
    )
