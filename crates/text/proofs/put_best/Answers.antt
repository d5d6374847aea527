-- The text of `text::put_best` is that of the plan, whose numbers have so few digits that it has room.
-- Assumes nothing.
use mathlib.Core.List.{List, ◌++◌}
use Prim.Native.Nat.{ℕ, ◌*◌, ◌≤◌, ◌<◌}
use native.Mathlib.Omega.{arith}
use lib.IntN.{ℤ}
use lib.ListN.{length, get_or, length-append}
use mir.Syntax.{w64}
use mir.Val.{SFits}
use borrow.Author.Rules.{rules}
use Rattle.cases.specs.declared.Case.{Case}
use Rattle.cases.specs.Limits.{most_hours}
use Rattle.quantities.specs.Widths.{words}
use Rattle.model.specs.Printed.{profit_line, hour_lines}
use Rattle.cases.proofs.LimitsLaws.{Limits}
use Rattle.cases.proofs.StagesLaws.{initial_le}
use Rattle.model.proofs.PrintedLaws.{length_refused_line, length_profit_line, length_hour_lines}
use Rattle.text.specs.Lines.{hour_length, longest}
use Rattle.text.proofs.PlanLaws.{abs_of_fits, told_refused, told_found, limits_found}
use Rattle.text.proofs.put_best.Goals as goal

-- the text of a day has room
day_length : (case : Case) → Limits case → (l : List ℕ) → ((i : ℕ) → get_or l i 0 < words) → (v : ℤ) → SFits w64 v
    → length (profit_line v ++ hour_lines case l case.hours) ≤ longest
day_length case limits l below v fits =
    let opening : case.initial.0 < words = omega (arith, initial_le case limits, limits.capacity_le) in
    let few : case.hours < 1000 = omega (arith, limits.hours_le) in
    let lines : length (hour_lines case l case.hours) ≤ hour_length * most_hours =
    omega (arith, limits.hours_le, length_hour_lines case l opening below case.hours few) in
    omega (
      arith,
      length-append (profit_line v) (hour_lines case l case.hours),
      length_profit_line v (abs_of_fits v fits),
      lines,
    )

pub put_day-requires-clause-hours_in_bounds : goal.put_day-requires-clause-hours_in_bounds
put_day-requires-clause-hours_in_bounds c =
    let limits = limits_found c.args.file.now c.args.work.now c.args.outputs.now c.requires.0 c.requires.1
    c.read-reading.ensures c.schedule.ensures.answer c.schedule.ensures.outputs c.in-Ok.is in
    (omega (arith, limits.hours_le, c.requires.1, c.schedule.auto.outputs), limits.hours_le)

pub put_day-requires-clause-hours_in_bounds_2 : goal.put_day-requires-clause-hours_in_bounds_2
put_day-requires-clause-hours_in_bounds_2 c =
    let limits = limits_found c.args.file.now c.args.work.now c.args.outputs.now c.requires.0 c.requires.1
    c.read-reading.ensures c.schedule.ensures.answer c.schedule.ensures.outputs c.in-Ok.is in
    omega (
      arith,
      day_length c.read-reading.result.case limits c.schedule.new.outputs (λ i. (c.slice_known-2-1.given i).fits)
          c.in-Ok.profit.0 (search rules),
    )

pub put_refused-requires : goal.put_refused-requires
put_refused-requires c = omega (arith, length_refused_line c.in-Err.refusal.0 (search rules))

pub returns-in-Ok-clause-puts : goal.returns-in-Ok-clause-puts
returns-in-Ok-clause-puts c =
    rw (told_found c.args.file.now c.args.work.now c.args.outputs.now c.requires.0 c.requires.1
    c.read-reading.ensures c.schedule.ensures.answer c.schedule.ensures.outputs c.in-Ok.is) c.put_day.ensures

pub returns-in-Ok-clause-upper_bound : goal.returns-in-Ok-clause-upper_bound
returns-in-Ok-clause-upper_bound c =
    let limits = limits_found c.args.file.now c.args.work.now c.args.outputs.now c.requires.0 c.requires.1
    c.read-reading.ensures c.schedule.ensures.answer c.schedule.ensures.outputs c.in-Ok.is in
    omega (
      arith,
      c.put_day.ensures.place,
      day_length c.read-reading.result.case limits c.schedule.new.outputs (λ i. (c.slice_known-2-1.given i).fits)
          c.in-Ok.profit.0 (search rules),
    )

pub returns-in-Err-clause-puts : goal.returns-in-Err-clause-puts
returns-in-Err-clause-puts c =
    rw (told_refused c.args.file.now c.args.work.now c.args.outputs.now c.requires.0 c.requires.1
    c.read-reading.ensures c.schedule.ensures.answer c.schedule.ensures.outputs c.in-Err.is) c.put_refused.ensures

pub returns-in-Err-clause-upper_bound : goal.returns-in-Err-clause-upper_bound
returns-in-Err-clause-upper_bound c =
    omega (arith, c.put_refused.ensures.place, length_refused_line c.in-Err.refusal.0 (search rules))
