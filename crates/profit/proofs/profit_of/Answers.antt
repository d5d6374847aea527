-- `profit::profit_of` meets its contract: the hours are added up. Assumes nothing.
use Rattle.std.proofs.Common.{arith, sym, ap, ◌+◌, ◌<◌, ◌≤◌, ◌≡◌, ◌∙◌, ℕ, ℤ, nat_abs, ◌-ℤ◌, List, get_or}
use Rattle.cases.specs.declared.admitted.Admitted.{Admitted}
use Rattle.day.specs.Marks.{p}
use Rattle.day.proofs.MarksLaws.{p_zero}
use Rattle.cases.proofs.LimitsLaws.{Limits, limits_of_refusal_of}
use Rattle.machine.specs.Bounds.{most_profit}
use Rattle.machine.proofs.Table.BoundsLaws.{profit_below}
use Rattle.cases.specs.Symbols.{F}
use Rattle.cases.specs.Layout.{no_mills}
use Rattle.profit.specs.Worth.{Hourly}
use Rattle.profit.proofs.EarnedLaws.{over_of, Earned, earned_start, earned_step, earned_end}
use Rattle.profit.proofs.profit_of.Goals as goal

-- the case keeps the limits
limits : (a : Admitted) → Limits a.case
limits a = limits_of_refusal_of a.case a.within

pub loop-k-init : goal.loop-k-init
loop-k-init c = earned_start (sym (p_zero c.args.case.now.case c.args.list.now))

pub offset_bounds-day-k : goal.offset_bounds-day-k
offset_bounds-day-k c = omega (arith, (limits c.args.case.now).hours_le)

pub bounds-day-k : goal.bounds-day-k
bounds-day-k c = omega (arith, (limits c.args.case.now).hours_le)

pub overflow_cast-k : goal.overflow_cast-k
overflow_cast-k c = omega (arith, (limits c.args.case.now).hours_le)

pub overflow_add-k : goal.overflow_add-k
overflow_add-k c = omega (arith, (limits c.args.case.now).hours_le)

pub hour_profit-requires : goal.hour_profit-requires
hour_profit-requires c =
    let a = c.args.case.now in
    (over_of a.case c.loop-k.k (limits a) c.loop-k-test.true c.margin-over.ensures).most

-- the hour is the next one
hour : (a : Admitted) {l : List ℕ} {k q r : ℕ} {over total : ℤ} → k < a.case.hours
    → over ≡ (get_or a.case.prices k no_mills).0 -ℤ F a.case → Earned a.case l k total q → r ≡ p a.case l (k + 1)
    → Hourly a.case l (k + 1) over q r
hour a {l} {k} h over e is =
    record {
      some = omega arith;
      part = omega arith;
      margin = (over_of a.case k (limits a) h over).is;
      was = e.was ∙ ap (p a.case l) (omega arith);
      is = is;
    }

pub sum-total-requires : goal.sum-total-requires
sum-total-requires c =
    let a = c.args.case.now in
    let next = hour a c.loop-k-test.true c.margin-over.ensures c.loop-k.invariant c.output_at-is.ensures in
    let worth = c.hour_profit.ensures c.args.list.now (c.loop-k.k + 1) next in
    let day : nat_abs c.loop-k.total.0 + nat_abs c.hour_profit.result.0 ≤ most_profit =
    omega (arith, c.loop-k.invariant.most, worth.most, (limits a).hours_le) in
    omega (arith, profit_below)

pub loop-k-preserved : goal.loop-k-preserved
loop-k-preserved c =
    let a = c.args.case.now in
    let next = hour a c.loop-k-test.true c.margin-over.ensures c.loop-k.invariant c.output_at-is.ensures in
    earned_step c.hour_profit.result.0 c.sum-total.result.0 c.output_at-is.result.0 c.loop-k.invariant (omega arith)
    (c.hour_profit.ensures c.args.list.now (c.loop-k.k + 1) next) c.sum-total.ensures c.output_at-is.ensures

pub returns : goal.returns
returns c =
    let h = c.loop-k.invariant in
    record { is = earned_end h (omega arith); most = omega (arith, h.most, h.part, (limits c.args.case.now).hours_le) }
