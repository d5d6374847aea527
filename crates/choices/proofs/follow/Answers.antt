-- The state that `choices::follow` answers is the one that the output moves to, by the kinds of states.
-- Assumes nothing.
use mathlib.Core.Path.{◌≡◌, ap, ◌∙◌, subst}
use mathlib.Core.Option.{some}
use Prim.Native.Nat.{ℕ, ◌+◌, ◌≤◌, ◌<◌, min}
use borrow.Author.Rules.{rules}
use Rattle.machine.specs.declared.State.{State}
use Rattle.machine.specs.declared.Unit.{Unit}
use Rattle.machine.specs.Moves.{idle, running, move}
use Rattle.machine.proofs.Table.Follows.{follow_stay, follow_start, follow_rise, follow_run, follow_leave, follow_fall}
use Rattle.choices.proofs.follow.Goals as goal

-- a move of the state is one of what the state is
moved : (u : Unit) (q : ℕ) {s x t : State} → s ≡ x → move u s q ≡ some t → move u x q ≡ some t
moved u q {t = t} e m = subst (λ (x : State). move u x q ≡ some t) e m

pub returns-then-eq : goal.returns-then-eq
returns-then-eq c =
    let u = c.args.u in
    let q = c.args.q.0 in
    let later : c.min.result.0 ≡ min (c.in-Off.d.0 + 1) u.mindown.0 = search rules in
    let off : q ≡ 0 = search rules in
    λ t m. ap idle later ∙ follow_stay u c.in-Off.d q t off (moved u q c.in-Off.is m)

pub returns-then-le : goal.returns-then-le
returns-then-le c =
    let u = c.args.u in
    let q = c.args.q.0 in
    let on : u.minimum.0 ≤ q = search rules in
    λ t m. ap (running q) c.less.ensures
    ∙ follow_run u c.in-Run.field-0 c.in-Run.j q t on (moved u q c.in-Run.is m)

pub returns-else-eq : goal.returns-else-eq
returns-else-eq c =
    let u = c.args.u in
    let q = c.args.q.0 in
    let on : q ≡ 0 → ⊥ = search rules in
    λ t m. c.risen_at.ensures ∙ follow_start u c.in-Off.d q t on (moved u q c.in-Off.is m)

pub returns-in-Rise : goal.returns-in-Rise
returns-in-Rise c =
    let u = c.args.u in
    let q = c.args.q.0 in
    λ t m. c.risen_at-in-Rise.ensures ∙ follow_rise u c.in-Rise.i q t (moved u q c.in-Rise.is m)

pub returns-else-le : goal.returns-else-le
returns-else-le c =
    let u = c.args.u in
    let q = c.args.q.0 in
    let low : q < u.minimum.0 = search rules in
    λ t m. c.fallen_at.ensures
    ∙ follow_leave u c.in-Run.field-0 c.in-Run.j q t low (moved u q c.in-Run.is m)

pub returns-in-Fall : goal.returns-in-Fall
returns-in-Fall c =
    let u = c.args.u in
    let q = c.args.q.0 in
    λ t m. c.fallen_at-in-Fall.ensures ∙ follow_fall u c.in-Fall.i q t (moved u q c.in-Fall.is m)
