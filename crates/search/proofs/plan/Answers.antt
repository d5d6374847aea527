-- `search::plan` meets its contract: no list, or the list that the walk writes. Assumes nothing.
use Rattle.std.proofs.Common.{sym, ap, ◌∙◌}
use Rattle.cells.specs.Ahead.{tariffs}
use Rattle.cells.specs.declared.Pick.{Pick}
use Rattle.search.proofs.Walked.{chosen_worth, found_none, found_live, found_some}
use Rattle.search.proofs.plan.Goals as goal

pub returns-then-absent : goal.returns-then-absent
returns-then-absent c =
    let d = c.args.passed.now.day in
    let best = c.choose-best in
    let earned = chosen_worth d.unit (tariffs d) 0 c.args.s best.result d.fit.hours_pos best.ensures in
    found_none d.unit (tariffs d) d.fit d.day.fair c.args.s c.args.outputs.now _ earned
    (sym c.absent.ensures ∙ c.if-absent.true)

pub walk-requires-clause-fact : goal.walk-requires-clause-fact
walk-requires-clause-fact c =
    let d = c.args.passed.now.day in
    let best = c.choose-best in
    let earned = chosen_worth d.unit (tariffs d) 0 c.args.s best.result d.fit.hours_pos best.ensures in (
      found_live d.unit (tariffs d) d.fit d.day.fair c.args.s c.args.outputs.now _ earned
          (sym c.absent.ensures ∙ c.if-absent.false),
      ap (λ (p : Pick). p.at.0) c.choose-best.ensures,
    )

pub returns : goal.returns
returns c =
    let d = c.args.passed.now.day in
    let best = c.choose-best in
    let earned = chosen_worth d.unit (tariffs d) 0 c.args.s best.result d.fit.hours_pos best.ensures in
    found_some d.unit (tariffs d) d.fit d.day.fair c.args.s c.args.outputs.now _ earned _
    (sym c.absent.ensures ∙ c.if-absent.false) c.walk.ensures
