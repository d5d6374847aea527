-- `best::find` meets its contract: no list where the opening stop comes too early, and else the search. Assumes
-- nothing.
use Rattle.std.proofs.Common.{refl, sym, ◌∙◌}
use Rattle.day.specs.Profit.{profit_by}
use Rattle.best.proofs.FindLaws.{planned_clear, early_answer, early_outputs}
use Rattle.best.proofs.find.Goals as goal

pub returns-then-stops_early : goal.returns-then-stops_early
returns-then-stops_early c =
    let admitted = c.args.case.now in
    let case = admitted.case in
    let work = c.args.work.now in
    let ys = c.args.outputs.now in
    let early = sym c.stops_early.ensures ∙ c.if-stops_early.true in
    record {
      answer = λ cost pays. early_answer case (profit_by cost case) admitted.within early work ys;
      work = λ cost pays. c.clear.ensures
          ∙ planned_clear case (profit_by cost case) c.args.n work work ys _ c.requires.n_value.0 refl;
      outputs = λ cost pays. early_outputs case (profit_by cost case) admitted.within early work ys;
    }
