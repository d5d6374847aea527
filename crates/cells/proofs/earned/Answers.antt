-- What an hour earns: the product and the differences stay within 64 bits. Assumes nothing.
use Rattle.std.proofs.Common.{◌*◌, ◌≤◌, nat_abs, arith, refl}
use Rattle.laws.proofs.Magnitude.{abs_sub}
use Rattle.machine.specs.Bounds.{most_ends, most_cost, most_margin}
use Rattle.machine.specs.Moves.{spent, earn}
use Rattle.machine.proofs.Table.Sizes.{charge_abs, product_abs}
use Rattle.cells.proofs.earned.Goals as goal
use Rattle.cells.proofs.earned.Goals.{After-difference-spent}

-- what the energy is sold for, and what it costs by the table
sold : (c : After-difference-spent) → nat_abs c.multiple-sold.result.0 ≤ most_margin * most_ends
sold c = rw c.multiple-sold.ensures (product_abs c.requires.fair _ (omega (arith, c.requires.p_bound)))

spending : (c : After-difference-spent) → nat_abs c.difference-spent.result.0 ≤ 2 * most_cost
spending c =
    rw c.difference-spent.ensures
    (omega (arith, abs_sub c.cost_at.result.0 c.cost_at-2.result.0, c.cost_at.ensures.1, c.cost_at-2.ensures.1))

pub difference-requires : goal.difference-requires
difference-requires c =
    let d = (goal.at.difference-requires c).After-difference-spent in omega (arith, sold d, spending d)

pub difference-requires-2 : goal.difference-requires-2
difference-requires-2 c =
    let d = (goal.at.difference-requires-2 c).After-difference-spent in
    rw (c.difference.ensures, c.charged.ensures c.args.costs.now)
    (omega (
      arith,
      abs_sub c.multiple-sold.result.0 c.difference-spent.result.0,
      sold d,
      spending d,
      charge_abs c.requires.fair c.args.q.0 c.args.p.0,
    ))

pub returns : goal.returns
unfolding spent earn
returns c =
    rw (
      c.difference-2.ensures,
      c.difference.ensures,
      c.charged.ensures c.args.costs.now,
      c.multiple-sold.ensures,
      c.difference-spent.ensures,
      c.cost_at.ensures.0,
      c.cost_at-2.ensures.0,
    ) refl
