-- `hours::counts::count_marks` meets its contract: the starts are counted first, since a stop after T asks whether hour
-- T lies in a start-up. Assumes nothing.
use Rattle.std.proofs.Common.{arith, ap, ◌+◌, ◌-◌, ◌∙◌}
use Rattle.cases.specs.Limits.{most_stages}
use Rattle.cases.proofs.LimitsLaws.{limits_of_refusal_of}
use Rattle.hours.specs.Counted.{counted, start_of}
use Rattle.hours.proofs.StartsLaws.{starting_counted}
use Rattle.hours.proofs.counts.count_marks.Goals as goal

pub overflow_cast-next : goal.overflow_cast-next
overflow_cast-next c =
    let a = c.args.case.now in
    omega (arith, (limits_of_refusal_of a.case a.within).hours_le)

pub overflow_add-next : goal.overflow_add-next
overflow_add-next c =
    let a = c.args.case.now in
    omega (arith, (limits_of_refusal_of a.case a.within).hours_le)

pub overflow_add-next-2 : goal.overflow_add-next-2
overflow_add-next-2 c =
    let a = c.args.case.now in
    omega (arith, (limits_of_refusal_of a.case a.within).hours_le)

pub overflow_cast-case : goal.overflow_cast-case
overflow_cast-case c =
    let a = c.args.case.now in
    omega (arith, (limits_of_refusal_of a.case a.within).rises_le)

pub between-started-requires-clause-from_le_to : goal.between-started-requires-clause-from_le_to
between-started-requires-clause-from_le_to c =
    let a = c.args.case.now in
    omega (arith, (limits_of_refusal_of a.case a.within).hours_le)

pub count_stops-requires-clause-started_value : goal.count_stops-requires-clause-started_value
count_stops-requires-clause-started_value c =
    let a = c.args.case.now in
    let f = start_of a.case c.args.list.now in
    let next = a.case.hours + most_stages + 1 in
    c.between-started.ensures f c.count_starts.ensures
    ∙ ap (λ n. counted f next - counted f n) c.less.ensures
    ∙ starting_counted a.case c.args.list.now (limits_of_refusal_of a.case a.within) a.case.hours
