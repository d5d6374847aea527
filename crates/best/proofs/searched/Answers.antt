-- `best::searched` meets its contract: the search's number and list are those of the best list, and the working numbers
-- are zeroed whatever it left in them. Assumes nothing.
use Rattle.std.proofs.Common.{arith, refl, sym, ◌∙◌, subst}
use Rattle.cases.proofs.LimitsLaws.{limits_of_refusal_of}
use Rattle.cases.proofs.WorkLaws.{work_within}
use Rattle.machine.specs.Cases.{unit_of, margins_of, orders_of}
use Rattle.machine.specs.Fit.{Fit}
use Rattle.machine.proofs.Bridge.FitLaws.{fit_of_limits, opening_proper}
use Rattle.best.proofs.CaseDayLaws.{case_day, case_found}
use Rattle.best.proofs.FindLaws.{find_none, find_some, planned_clear}
use Rattle.best.proofs.searched.Goals as goal

pub margins-requires : goal.margins-requires
margins-requires c = ((limits_of_refusal_of _ c.args.case.now.within).hours_le, refl)

pub orders-orders-requires : goal.orders-orders-requires
orders-orders-requires c = (limits_of_refusal_of _ c.args.case.now.within).hours_le

pub invariant_of-day : goal.invariant_of-day
unfolding margins_of orders_of
invariant_of-day c =
    let admitted = c.args.case.now in
    let u = c.unit_of-unit.ensures in
    let m = c.margins.ensures in
    let o = c.orders-orders.ensures in
    let h = c.charges_of-charges.ensures in
    record {
      fit = subst Fit (sym u) (fit_of_limits admitted.case admitted.within);
      day = case_day admitted.case c.args.rates c.args.costs.now u m o h admitted.within c.requires.by_index.1;
    }

pub search_first-worth-requires-clause-proper : goal.search_first-worth-requires-clause-proper
unfolding unit_of
search_first-worth-requires-clause-proper c =
    let admitted = c.args.case.now in
    rw (c.unit_of-unit.ensures, c.opening_of-opening.ensures) (
      opening_proper admitted.case admitted.within,
      c.requires.n_value.2,
    )

pub search_first-worth-requires-clause-short_work_le_n : goal.search_first-worth-requires-clause-short_work_le_n
search_first-worth-requires-clause-short_work_le_n c =
    let (n, room, _) = c.requires.n_value in
    let work = work_within c.args.case.now.case in
    (omega (arith, n, work.0), omega (arith, n, work.1), room)

pub returns-then-absent : goal.returns-then-absent
unfolding margins_of orders_of
returns-then-absent c =
    let admitted = c.args.case.now in
    let case = admitted.case in
    let work = c.args.work.now in
    let ys = c.args.outputs.now in
    let found = case_found case c.args.rates c.args.costs.now c.unit_of-unit.ensures c.margins.ensures c.orders-orders.ensures
    c.charges_of-charges.ensures c.opening_of-opening.ensures c.search_first-worth.ensures.found in
    let gone = sym c.absent.ensures ∙ c.if-absent.true in
    record {
      answer = λ cost pays. (find_none case admitted.within c.requires.late pays work ys _ _ found gone).0;
      work = λ cost pays. c.clear.ensures ∙ planned_clear case _ c.args.n work _ ys _ c.requires.n_value.0
          c.search_first-worth.ensures.work_unchanged;
      outputs = λ cost pays. (find_none case admitted.within c.requires.late pays work ys _ _ found gone).1;
    }

pub returns : goal.returns
unfolding margins_of orders_of
returns c =
    let admitted = c.args.case.now in
    let case = admitted.case in
    let work = c.args.work.now in
    let ys = c.args.outputs.now in
    let found = case_found case c.args.rates c.args.costs.now c.unit_of-unit.ensures c.margins.ensures c.orders-orders.ensures
    c.charges_of-charges.ensures c.opening_of-opening.ensures c.search_first-worth.ensures.found in
    let there = sym c.absent.ensures ∙ c.if-absent.false in
    record {
      answer = λ cost pays. (find_some case admitted.within c.requires.late pays work ys _ _ found there).0;
      work = λ cost pays. c.clear.ensures ∙ planned_clear case _ c.args.n work _ ys _ c.requires.n_value.0
          c.search_first-worth.ensures.work_unchanged;
      outputs = λ cost pays. (find_some case admitted.within c.requires.late pays work ys _ _ found there).1;
    }
