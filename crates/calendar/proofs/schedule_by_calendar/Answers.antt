-- `calendar::schedule_by_calendar`: 14 and 15, a refused reading, a day of another length, a refused record, and else
-- the search of the day.
use borrow.Author.Rules.{rules}
use mathlib.Core.Path.{◌≡◌, sym, ap, ◌∙◌}
use Rattle.cases.specs.Reads.{Accepted, Refused}
use Rattle.std.specs.Prelude.{Err}
use Rattle.cases.specs.Layout.{with_arrays}
use Rattle.model.specs.Answers.{schedule_of}
use Rattle.model.specs.Calendar.{calendar_of}
use Rattle.model.proofs.CalendarLaws.{calendar_of_clash, calendar_of_unread, calendar_of_other, calendar_of_outside}
use Rattle.model.proofs.CalendarLaws.{calendar_of_day}
use Rattle.calendar.proofs.schedule_by_calendar.Goals as goal
use Rattle.calendar.proofs.schedule_by_calendar.Goals.{In-Ok}

-- the reading is accepted
accepted : (c : In-Ok)
    → calendar_of c.args.reading.outcome c.args.reading.case c.args.on.now c.args.off.now c.args.first.0 c.args.hours.0
    c.args.work.now c.args.outputs.now
    ≡ calendar_of Accepted c.args.reading.case c.args.on.now c.args.off.now c.args.first.0 c.args.hours.0
    c.args.work.now c.args.outputs.now
accepted c =
    ap (λ o. calendar_of o c.args.reading.case c.args.on.now c.args.off.now c.args.first.0 c.args.hours.0
    c.args.work.now c.args.outputs.now) c.in-Ok.is

pub returns-in_err-orders : goal.returns-in_err-orders
returns-in_err-orders c =
    let (n, some) = c.in_err-orders.ensures.err in
    let same : c.from_residual.result ≡ Err c.in_err-orders.field-0.0 = search rules in
    let e = sym (calendar_of_clash c.args.reading.case _ _ _ _ c.args.work.now c.args.outputs.now
    c.args.reading.outcome (sym n) some) in
    record { answer = same ∙ ap (λ s. s.answer) e; work = ap (λ s. s.work) e; outputs = ap (λ s. s.outputs) e }

pub returns-in_default : goal.returns-in_default
returns-in_default c =
    let e = sym (calendar_of_unread c.args.reading.case _ _ _ _ c.args.work.now c.args.outputs.now
    c.in_ok-orders.ensures.ok.0 c.unwrap_err.ensures) in
    record { answer = ap (λ s. s.answer) e; work = ap (λ s. s.work) e; outputs = ap (λ s. s.outputs) e }

pub returns-then-case-hours : goal.returns-then-case-hours
returns-then-case-hours c =
    let e = sym (accepted (goal.at.returns-then-case-hours c).In-Ok
    ∙ calendar_of_other _ _ _ _ _ _ _ c.in_ok-orders.ensures.ok.0 c.if-case-hours.true) in
    record { answer = ap (λ s. s.answer) e; work = ap (λ s. s.work) e; outputs = ap (λ s. s.outputs) e }

pub returns-in_err-tested : goal.returns-in_err-tested
returns-in_err-tested c =
    let (n, some) = c.in_err-tested.ensures.err in
    let same : c.from_residual-in_err-tested.result ≡ Err c.in_err-tested.field-0.0 = search rules in
    let e = sym (accepted (goal.at.returns-in_err-tested c).In-Ok
    ∙ calendar_of_outside _ _ _ _ _ _ _ c.in_ok-orders.ensures.ok.0 c.if-case-hours.false some) in
    record {
      answer = same ∙ ap Refused n ∙ ap (λ s. s.answer) e;
      work = ap (λ s. s.work) e;
      outputs = ap (λ s. s.outputs) e;
    }

pub returns : goal.returns
returns c =
    let case = c.args.reading.case in
    let day = c.ordered.ensures ∙ ap (with_arrays case case.rise case.fall case.prices) c.in_ok-orders.ensures.ok.1 in
    let e = ap (λ x. schedule_of Accepted x c.args.work.now c.args.outputs.now) day
    ∙ sym (accepted (goal.at.returns c).In-Ok
    ∙ calendar_of_day _ _ _ _ _ _ _ c.in_ok-orders.ensures.ok.0 c.if-case-hours.false c.in_ok-tested.ensures.ok) in
    record {
      answer = c.schedule.ensures.answer ∙ ap (λ s. s.answer) e;
      work = c.schedule.ensures.work ∙ ap (λ s. s.work) e;
      outputs = c.schedule.ensures.outputs ∙ ap (λ s. s.outputs) e;
    }
