-- `curves::split::step_at` meets its contract: the difference of two entries stays within 64 bits. Assumes nothing.
use Rattle.std.proofs.Common.{arith, ◌≡◌, suc, ◌+◌, ℤ, ◌+ℤ◌, ◌-ℤ◌, add-one}
use Rattle.machine.specs.Moves.{cost_at}
use Rattle.laws.proofs.Signed.{linear, parts_add, parts_sub}
use Rattle.curves.proofs.split.step_at.Goals as goal

-- what is taken off is added again
again : (x y : ℤ) → y ≡ x +ℤ (y -ℤ x)
again x y = omega (linear, parts_sub y x, parts_add x (y -ℤ x))

pub difference-requires : goal.difference-requires
difference-requires c =
    let le = c.requires.0.cost_le in
    rw (c.value_at.ensures, c.value_at-2.ensures) (omega (arith, le c.args.n, le (c.args.n + 1)))

pub returns : goal.returns
returns c =
    rw (c.difference.ensures, c.value_at.ensures, c.value_at-2.ensures, add-one)
    (again (cost_at c.args.costs.now c.args.n) (cost_at c.args.costs.now (suc c.args.n)))
