-- `hours::numbers_at` meets its contract: outputs and marks are those of the hour, sums are differences of counts.
-- Assumes nothing.
use Rattle.std.proofs.Common.{arith, sym, ap, ◌≡◌, ◌+◌, ◌-◌, ◌∙◌}
use Rattle.day.specs.Marks.{p, z}
use Rattle.cases.specs.declared.admitted.Admitted.{Admitted}
use Rattle.cases.proofs.LimitsLaws.{Limits, limits_of_refusal_of}
use Rattle.cases.proofs.SymbolsLaws.{before_is}
use Rattle.hours.specs.Counted.{counted, start_of}
use Rattle.hours.proofs.StagedLaws.{staged_rise, staged_fall}
use Rattle.hours.proofs.MarkLaws.{marks_at_is}
use Rattle.hours.proofs.NumbersLaws.{megawatts, numbers_of, stops_are, startup_is, shutdown_is}
use Rattle.hours.proofs.numbers_at.Goals as goal

-- the case keeps the limits
limits : (a : Admitted) → Limits a.case
limits a = limits_of_refusal_of a.case a.within

pub overflow_cast-rises : goal.overflow_cast-rises
overflow_cast-rises c = omega (arith, (limits c.args.counts.now.case.now).rises_le)

pub overflow_cast-falls : goal.overflow_cast-falls
overflow_cast-falls c = omega (arith, (limits c.args.counts.now.case.now).falls_le)

pub overflow_add-fallen : goal.overflow_add-fallen
overflow_add-fallen c = let h = limits c.args.counts.now.case.now in omega (arith, h.hours_le, h.falls_le)

pub overflow_add-met : goal.overflow_add-met
overflow_add-met c = let h = limits c.args.counts.now.case.now in omega (arith, h.hours_le, h.rises_le)

pub overflow_add-met-2 : goal.overflow_add-met-2
overflow_add-met-2 c = let h = limits c.args.counts.now.case.now in omega (arith, h.hours_le, h.rises_le, h.falls_le)

pub overflow_sub-met : goal.overflow_sub-met
overflow_sub-met c = let h = limits c.args.counts.now.case.now in omega (arith, h.rises_pos, h.falls_pos)

pub overflow_add-at : goal.overflow_add-at
overflow_add-at c = let h = limits c.args.counts.now.case.now in omega (arith, h.hours_le)

pub sequence_at-startup-requires-clause-staged : goal.sequence_at-startup-requires-clause-staged
sequence_at-startup-requires-clause-staged c = staged_rise (limits c.args.counts.now.case.now)

pub sequence_at-startup-requires-clause-k_lt_last_count : goal.sequence_at-startup-requires-clause-k_lt_last_count
sequence_at-startup-requires-clause-k_lt_last_count c =
    let h = limits c.args.counts.now.case.now in
    omega (arith, h.hours_le)

pub sequence_at-shutdown-requires-clause-staged : goal.sequence_at-shutdown-requires-clause-staged
sequence_at-shutdown-requires-clause-staged c = staged_fall (limits c.args.counts.now.case.now)

pub sequence_at-shutdown-requires-clause-k_lt_last_count : goal.sequence_at-shutdown-requires-clause-k_lt_last_count
sequence_at-shutdown-requires-clause-k_lt_last_count c =
    let h = limits c.args.counts.now.case.now in
    omega (arith, h.hours_le, h.falls_le)

pub between-requires-clause-from_le_to : goal.between-requires-clause-from_le_to
between-requires-clause-from_le_to c =
    let h = limits c.args.counts.now.case.now in
    (omega arith, omega (arith, h.hours_le, h.falls_le))

pub between-requires-2-clause-from_le_to : goal.between-requires-2-clause-from_le_to
between-requires-2-clause-from_le_to c =
    let h = limits c.args.counts.now.case.now in
    (omega (arith, h.rises_pos), omega (arith, h.hours_le, h.falls_le, h.rises_le))

pub returns : goal.returns
returns c =
    let counts = c.args.counts.now in
    let case = counts.case.now.case in
    let h = limits counts.case.now in
    let l = counts.list.now in
    let k = c.args.k.0 in
    let before-k : c.output_at-earlier.result.0 ≡ p case l (k - 1) =
    c.output_at-earlier.ensures ∙ ap (p case l) c.less.ensures in
    let n = case.rises + case.falls - 1 in
    let met : k + case.rises + case.falls - 1 ≡ k + n = omega (arith, h.rises_pos) in
    let output = ap megawatts c.output_at-output.ensures in
    let earlier = ap megawatts (before-k ∙ ap (p case l) (sym (before_is k))) in
    let marked = marks_at_is case l k (omega arith) before-k c.output_at-output.ensures c.marks_of-marks.ensures in
    let startup = c.sequence_at-startup.ensures (start_of case l) counts.counted.starts
    ∙ startup_is case l h.rises_le k in
    let shutdown = c.sequence_at-shutdown.ensures (z case l) counts.counted.stops ∙ shutdown_is case l k in
    let falling = c.between.ensures (z case l) counts.counted.stops ∙ stops_are case l k case.falls in
    let meeting = c.between-2.ensures (z case l) counts.counted.stops
    ∙ ap (λ j. counted (z case l) j - counted (z case l) k) met ∙ stops_are case l k n in
    record { are = numbers_of output earlier marked startup shutdown falling meeting }
