-- `count::whole` meets its contract. Assumes nothing.
use Rattle.std.proofs.Common.{◌∙◌, ap, ◌/◌, arith}
use native.Mathlib.Nat.{add-mul-div_left, div-eq_of_lt, mul-suc}
use Rattle.count.proofs.whole.Goals as goal

pub loop-left-preserved : goal.loop-left-preserved
loop-left-preserved c =
    let l = c.loop-left in
    (omega (arith, l.invariant.0, mul-suc c.args.size l.n), omega arith)

pub returns : goal.returns
returns c =
    let l = c.loop-left in
    let size = c.args.size in
    let q = ap (λ x. x / size) l.invariant.0 ∙ add-mul-div_left l.left l.n c.requires in
    omega (arith, q, div-eq_of_lt {n = l.left} {m = size} (omega arith))
