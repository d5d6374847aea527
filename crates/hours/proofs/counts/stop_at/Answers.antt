-- `hours::counts::stop_at` meets its contract: in the day by the outputs at the ends of the hour, after it by the
-- output of PD at which the day closes. Assumes nothing.
use Rattle.std.proofs.Common.{arith, sym, ap, ◌≡◌, ◌+◌, ◌-◌, ◌∙◌}
use Rattle.cases.specs.Symbols.{stage}
use Rattle.day.specs.Marks.{p}
use Rattle.cases.proofs.LimitsLaws.{limits_of_refusal_of}
use Rattle.day.proofs.MarksLaws.{z_closing, z_started, z_far}
use Rattle.hours.proofs.MarkLaws.{marks_at_is}
use Rattle.hours.proofs.ClosingLaws.{closed}
use Rattle.hours.proofs.counts.stop_at.Goals as goal

pub returns-then-at-hours : goal.returns-then-at-hours
returns-then-at-hours c =
    let a = c.args in
    let earlier = c.output_at-was.ensures ∙ ap (p a.case.now.case a.list.now) c.less.ensures in
    let at = marks_at_is a.case.now.case a.list.now a.k.0 (omega arith) earlier c.output_at.ensures
    c.marks_of.ensures in
    ap (λ m. m.stop) at

pub overflow_add-end : goal.overflow_add-end
overflow_add-end c =
    let a = c.args.case.now in
    let h = limits_of_refusal_of a.case a.within in
    omega (arith, h.hours_le, h.falls_le)

pub overflow_add-end-2 : goal.overflow_add-end-2
overflow_add-end-2 c =
    let a = c.args.case.now in
    let h = limits_of_refusal_of a.case a.within in
    omega (arith, h.hours_le, h.falls_le)

pub returns-then-end-at : goal.returns-then-end-at
returns-then-end-at c =
    sym (z_far c.args.case.now.case c.args.list.now c.args.k.0 (omega arith) (omega arith))

pub returns-then-started-ne0 : goal.returns-then-started-ne0
returns-then-started-ne0 c =
    sym (z_started c.args.case.now.case c.args.list.now c.args.k.0 (omega arith) (λ e. omega arith))

pub returns : goal.returns
returns c =
    let case = c.args.case.now.case in
    let i = case.hours + case.falls + 1 - c.args.k.0 in
    let at : case.hours + case.falls + 1 - c.from-at.result ≡ i = omega arith in
    c.closing.ensures
    ∙ ap (λ j. closed j case.falls c.output_at-2.result.0 (stage case.fall j)) at
    ∙ ap (λ x. closed i case.falls x (stage case.fall i)) c.output_at-2.ensures
    ∙ sym (z_closing case c.args.list.now c.args.k.0 (omega arith) (omega arith))
