-- `rules::breach::first_breach` meets its contract: hour 0, then the hours from 1 on. Assumes nothing.
use Rattle.std.proofs.Common.{sym, ◌∙◌}
use Rattle.cases.proofs.LimitsLaws.{limits_of_refusal_of}
use Rattle.day.proofs.BreachLaws.{broken_at_zero}
use Rattle.rules.proofs.BreachLaws.{broken_edge, kept_edge}
use Rattle.rules.proofs.breach.first_breach.Goals as goal

pub returns-then-edge-ne0 : goal.returns-then-edge-ne0
returns-then-edge-ne0 c =
    let a = c.args.case.now in
    let l = c.args.list.now in
    let edge = c.broken_edge-edge.ensures ∙ sym (broken_at_zero a.case l) in
    broken_edge a.case l (limits_of_refusal_of a.case a.within).falls_pos c.broken_edge-edge.result edge
    c.if-edge-ne0.true

pub returns : goal.returns
returns c =
    let a = c.args.case.now in
    let l = c.args.list.now in
    let edge = c.broken_edge-edge.ensures ∙ sym (broken_at_zero a.case l) in
    kept_edge a.case l (limits_of_refusal_of a.case a.within).falls_pos (sym edge ∙ c.if-edge-ne0.false)
    ∙ c.later_breach.ensures
