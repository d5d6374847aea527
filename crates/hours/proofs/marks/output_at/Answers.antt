-- `hours::marks::output_at` meets its contract: p(0) is the case's, p(k) stands in the list, and past the list it is 0.
-- Assumes nothing.
use Rattle.std.proofs.Common.{arith, sym, ap, ◌≡◌, ◌-◌, ◌<◌, ◌∙◌, get_or}
use borrow.Author.Tests.{eqb-true, eqb-false}
use Rattle.day.specs.Marks.{p}
use Rattle.day.proofs.MarksLaws.{p_zero, p_later, p_past}
use Rattle.hours.proofs.marks.output_at.Goals as goal

pub returns-then-eq : goal.returns-then-eq
returns-then-eq c =
    let zero : c.args.k.0 ≡ 0 = eqb-true _ _ (sym c.eq.ensures ∙ c.if-eq.true) in
    sym (ap (p c.args.case.now c.args.list.now) zero ∙ p_zero c.args.case.now c.args.list.now)

pub returns-in-Some : goal.returns-in-Some
returns-in-Some c =
    let ne = eqb-false _ _ (sym c.eq.ensures ∙ c.if-eq.false) in
    let some : 0 < c.args.k.0 = omega arith in
    let (_, _, _, (_, here), _) = c.in-Some.ensures.lookup in
    here 0
    ∙ ap (λ i. get_or c.args.list.now (i - 1) 0) c.from.ensures
    ∙ sym (p_later c.args.case.now c.args.list.now c.args.k.0 some)

pub returns-in-None : goal.returns-in-None
returns-in-None c =
    let ne = eqb-false _ _ (sym c.eq.ensures ∙ c.if-eq.false) in
    let (_, _, _, past, _) = c.in-None.ensures.lookup in
    sym (p_past c.args.case.now c.args.list.now c.args.k.0 (omega arith))
