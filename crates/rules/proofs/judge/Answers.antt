-- `rules::judge` meets its contract: the breach that was found, or the profit. Assumes nothing.
use Rattle.std.proofs.Common.{sym, ap, ◌∙◌}
use Rattle.cases.specs.declared.Verdict.TheVariants.{Passes}
use Rattle.std.specs.Prelude.{Ok}
use Rattle.day.specs.Profit.{profit_of}
use Rattle.model.specs.Answers.{judged}
use Rattle.model.proofs.CheckLaws.{judged_none, judged_some}
use Rattle.rules.proofs.BreachLaws.{found_none, found_some}
use Rattle.rules.proofs.judge.Goals as goal

pub returns-in-Some : goal.returns-in-Some
returns-in-Some c =
    let profit = profit_of c.args.case.now.case c.args.list.now in
    sym (ap (judged profit) (c.in-Some.ensures ∙ found_some c.in-Some.breach) ∙ judged_some profit c.in-Some.breach)

pub returns-in-None : goal.returns-in-None
returns-in-None c =
    let profit = profit_of c.args.case.now.case c.args.list.now in
    ap (λ x. Ok (Passes (record { 0 = x }))) c.profit_of.ensures.is
    ∙ sym (ap (judged profit) (c.in-None.ensures ∙ found_none) ∙ judged_none profit)
