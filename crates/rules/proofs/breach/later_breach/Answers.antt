-- `rules::breach::later_breach` meets its contract: hours that break no rule are passed one by one. Assumes nothing.
use Rattle.std.proofs.Common.{arith, sym, ap, subst, ◌≡◌, ◌+◌, ◌-◌, ◌∙◌, ℕ, List, get_or}
use Rattle.day.specs.Marks.{y}
use Rattle.day.specs.Rules.{breach_from}
use Rattle.cases.specs.declared.admitted.Admitted.{Admitted}
use Rattle.cases.specs.Symbols.{hourly}
use Rattle.cases.proofs.SymbolsLaws.{hourly_at}
use Rattle.cases.proofs.LimitsLaws.{Limits, limits_of_refusal_of}
use Rattle.broken.specs.Elapsed.{Held}
use Rattle.rules.proofs.BreachLaws.{reach, onward_start, onward_step, onward_broken}
use Rattle.rules.proofs.breach.later_breach.Goals as goal

-- the case keeps the limits
limits : (a : Admitted) → Limits a.case
limits a = limits_of_refusal_of a.case a.within

-- the order of an hour, by its place
ordered : (l : List ℕ) (i : ℕ) → get_or l i 0 ≡ hourly l (i + 1)
ordered l i =
    ap (λ j. get_or l j 0) (let e : i ≡ i + 1 - 1 = omega arith in e) ∙ sym (hourly_at l (i + 1) (omega arith))

pub loop-i-init : goal.loop-i-init
loop-i-init c =
    record {
      some = omega arith;
      inside = omega arith;
      hours = onward_start;
      elapsed = c.opening-since.ensures c.args.counts.now.list.now;
    }

pub overflow_cast-hour : goal.overflow_cast-hour
overflow_cast-hour c = omega (arith, (limits c.args.counts.now.case.now).hours_le)

pub overflow_add-hour : goal.overflow_add-hour
overflow_add-hour c = omega (arith, (limits c.args.counts.now.case.now).hours_le)

pub bounds-case-i : goal.bounds-case-i
bounds-case-i c = omega (arith, (limits c.args.counts.now.case.now).hours_le)

pub returns-then-rule-ne0 : goal.returns-then-rule-ne0
returns-then-rule-ne0 c =
    let case = c.args.counts.now.case.now.case in
    let h = c.loop-i.invariant in
    let k = c.loop-i.i + 1 in
    let broken = c.broken_at-rule.ensures h.some (omega arith) h.elapsed (ordered case.orders c.loop-i.i) in
    onward_broken h.hours c.broken_at-rule.result (omega (arith, (limits c.args.counts.now.case.now).falls_pos)) broken
    c.if-rule-ne0.true

pub passed-since-requires : goal.passed-since-requires
passed-since-requires c =
    let h = limits c.args.counts.now.case.now in
    let e = c.loop-i.invariant.elapsed in
    omega (arith, e.start.most, e.stop.most, h.hours_le, h.elapsed_le)

pub loop-i-preserved : goal.loop-i-preserved
loop-i-preserved c =
    let case = c.args.counts.now.case.now.case in
    let h = c.loop-i.invariant in
    let k = c.loop-i.i + 1 in
    let broken = c.broken_at-rule.ensures h.some (omega arith) h.elapsed (ordered case.orders c.loop-i.i) in
    record {
      some = omega arith;
      inside = omega arith;
      hours = onward_step h.hours (omega (arith, (limits c.args.counts.now.case.now).falls_pos))
          (sym broken ∙ c.if-rule-ne0.false);
      elapsed = c.passed-since.ensures h.some h.elapsed;
    }

pub late_breach-requires : goal.late_breach-requires
late_breach-requires c =
    let case = c.args.counts.now.case.now.case in
    let h = c.loop-i.invariant in
    subst (λ k. Held case (y case c.args.counts.now.list.now) k c.loop-i.since.start.0)
    (let e : c.loop-i.i + 1 ≡ case.hours + 1 = omega (arith, h.inside) in e) h.elapsed.start

pub returns : goal.returns
returns c =
    let case = c.args.counts.now.case.now.case in
    let l = c.args.counts.now.list.now in
    let h = c.loop-i.invariant in
    let k = c.loop-i.i + 1 in
    let some = (limits c.args.counts.now.case.now).falls_pos in
    let rest : 1 + reach case - k ≡ case.falls - 1 = omega (arith, h.inside) in
    let here : k ≡ case.hours + 1 = omega (arith, h.inside) in
    h.hours.onward
    ∙ ap (breach_from case l k) rest
    ∙ ap (λ j. breach_from case l j (case.falls - 1)) here
    ∙ c.late_breach.ensures
