-- `best::find_plain` meets its contract: F and A are what an hour costs without a table. Assumes nothing.
use Rattle.std.proofs.Common.{ap, ◌∙◌, []}
use Rattle.day.specs.Profit.{plain_cost}
use Rattle.model.specs.Answers.{Scheduling}
use Rattle.machine.specs.Cases.{Pays}
use Rattle.machine.proofs.Bridge.FitLaws.{own_pays}
use Rattle.best.proofs.FindLaws.{searched_plain}
use Rattle.best.proofs.find_plain.Goals as goal

pub find-requires-clause-by_index : goal.find-requires-clause-by_index
find-requires-clause-by_index c =
    let case = c.args.case.now.case in
    (plain_cost case, rw c.rates_of.ensures (own_pays case c.args.case.now.within))

pub returns : goal.returns
returns c =
    let case = c.args.case.now.case in
    let pays : Pays c.rates_of.result [] (plain_cost case) =
    rw c.rates_of.ensures (own_pays case c.args.case.now.within) in
    let e = searched_plain case c.args.work.now c.args.outputs.now in
    record {
      answer = c.find.ensures.answer (plain_cost case) pays ∙ ap (λ (x : Scheduling). x.answer) e;
      work = c.find.ensures.work (plain_cost case) pays ∙ ap (λ (x : Scheduling). x.work) e;
      outputs = c.find.ensures.outputs (plain_cost case) pays ∙ ap (λ (x : Scheduling). x.outputs) e;
    }
