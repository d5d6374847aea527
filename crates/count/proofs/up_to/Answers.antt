-- What `count::up_to` answers, by the two outcomes of its test. Assumes nothing.
use native.Mathlib.Nat.{le-div_iff_mul-le, div-le_of_le-mul, mul_comm}
use native.Mathlib.Omega.{arith}
use Prim.Native.Nat.{◌*◌, ◌/◌, ◌≤◌}
use Rattle.count.proofs.up_to.Goals as goal

pub returns-then-size-most : goal.returns-then-size-most
returns-then-size-most c =
    let a = c.args in
    let there : a.most * a.size ≤ a.amount = omega (arith, c.if-size-most.true, mul_comm a.most a.size) in
    let room : a.most ≤ a.amount / a.size = (le-div_iff_mul-le c.requires.0).1 there in
    omega (arith, room)

pub returns : goal.returns
returns c =
    let a = c.args in
    let few : a.amount / a.size ≤ a.most = div-le_of_le-mul a.size (omega (arith, c.if-size-most.false)) in
    omega (arith, few, c.whole.ensures)
