-- `curves::split::even` meets its contract: the entries lie on the line one after the other. Assumes nothing.
use Rattle.std.proofs.Common.{arith, sym, ap, subst, ◌≡◌, ◌∙◌, ℤ, ◌+ℤ◌, add-one}
use Rattle.machine.specs.Bounds.{most_energy}
use Rattle.machine.specs.Moves.{cost_at}
use Rattle.money.proofs.OrderLaws.{alike}
use Rattle.curves.specs.Even.{Even}
use Rattle.curves.proofs.SplitLaws.{even_start, even_step}
use Rattle.curves.proofs.split.even.Goals as goal

pub loop-n-init : goal.loop-n-init
loop-n-init c = even_start _ _

pub loop-n-preserved : goal.loop-n-preserved
loop-n-preserved c =
    let n = c.loop-n.n in
    let step = alike c.step_at.result.0 c.args.step.0 (sym c.ne.ensures ∙ c.if-ne.false) in
    rw (add-one n) (even_step n c.loop-n.invariant (c.step_at.ensures
    ∙ ap (λ (z : ℤ). cost_at c.args.costs.now n +ℤ z) step))

pub returns : goal.returns
returns c =
    let e : c.loop-n.n ≡ most_energy = omega arith in
    λ t. subst (Even c.args.costs.now c.args.step.0) e c.loop-n.invariant
