-- The day, the windows of the lists and the hours in both are tested in turn; then the marks are joined.
use borrow.Author.Rules.{rules}
use Rattle.std.proofs.Common.{sym, refl, ◌∙◌}
use Rattle.model.proofs.YearLaws.{first_of_parts}
use Rattle.orders.proofs.FillLaws.{met, joined}
use Rattle.orders.proofs.fill.Goals as goal

pub returns-then-not-is_day-clause-err : goal.returns-then-not-is_day-clause-err
returns-then-not-is_day-clause-err c =
    let day = sym c.if-not-is_day.true ∙ c.is_day.ensures in
    (first_of_parts _ _ _ _ day refl refl refl, search rules)

pub returns-in_default-clause-err : goal.returns-in_default-clause-err
returns-in_default-clause-err c =
    let day = sym c.if-not-is_day.false ∙ c.is_day.ensures in
    (first_of_parts _ _ _ _ day c.in_default.ensures.stand refl refl, search rules)

pub returns-in_default-survey-clause-err : goal.returns-in_default-survey-clause-err
returns-in_default-survey-clause-err c =
    let day = sym c.if-not-is_day.false ∙ c.is_day.ensures in
    (first_of_parts _ _ _ _ day c.in-Some.ensures.stand c.in_default-survey.ensures.stand refl, search rules)

pub returns-then-meet-clause-err : goal.returns-then-meet-clause-err
returns-then-meet-clause-err c =
    let day = sym c.if-not-is_day.false ∙ c.is_day.ensures in
    let both = sym c.if-meet.true ∙ c.meet.ensures
    ∙ met _ _ _ _ (search rules) _ _ c.in-Some.ensures.marks c.in-Some-survey.ensures.marks in
    (first_of_parts _ _ _ _ day c.in-Some.ensures.stand c.in-Some-survey.ensures.stand both, search rules)

pub returns-clause-ok : goal.returns-clause-ok
returns-clause-ok c =
    let day = sym c.if-not-is_day.false ∙ c.is_day.ensures in
    let a = c.in-Some.ensures.marks in
    let b = c.in-Some-survey.ensures.marks in
    let both = sym c.if-meet.false ∙ c.meet.ensures ∙ met _ _ _ _ (search rules) _ _ a b in (
      sym (first_of_parts _ _ _ _ day c.in-Some.ensures.stand c.in-Some-survey.ensures.stand both),
      c.merged.ensures ∙ joined _ _ _ _ (search rules) _ _ a b,
    )
