-- The list is gone over from its front, window by window.
use Rattle.std.proofs.Common.{sym, ◌∙◌}
use Rattle.orders.proofs.SurveyLaws.{surveyed_unfit, surveyed_step, surveyed_end}
use Rattle.orders.proofs.windows.survey.Goals as goal

pub returns-then-not-stands-clause-stand : goal.returns-then-not-stands-clause-stand
returns-then-not-stands-clause-stand c =
    surveyed_unfit _ c.loop-rest.invariant c.in-len2-up.len_at_least (sym c.stands.ensures ∙ c.if-not-stands.true)

pub loop-rest-preserved : goal.loop-rest-preserved
loop-rest-preserved c =
    rw c.end-from.ensures (surveyed_step _ c.loop-rest.invariant c.in-len2-up.len_at_least
    (sym c.stands.ensures ∙ c.if-not-stands.false) c.mark.ensures)

pub returns : goal.returns
returns c =
    let (stand, marks) = surveyed_end _ c.loop-rest.invariant c.in_default.len_below in
    rw (c.then_some.ensures, c.is_empty.ensures) (record { stand = stand; marks = marks })
