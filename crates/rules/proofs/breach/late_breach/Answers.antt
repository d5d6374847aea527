-- `rules::breach::late_breach` meets its contract: the hours above T are passed one by one, each held to rule 21.
-- Assumes nothing.
use Rattle.std.proofs.Common.{arith, sym, ap, ◌≡◌, ◌+◌, ◌-◌, ◌∙◌, ℕ}
use Rattle.day.specs.Marks.{y, z}
use Rattle.cases.specs.declared.admitted.Admitted.{Admitted}
use Rattle.cases.proofs.LimitsLaws.{Limits, limits_of_refusal_of}
use Rattle.day.proofs.MarksLaws.{y_past}
use Rattle.hours.specs.Counted.{counted}
use Rattle.hours.proofs.CountLaws.{counted_more}
use Rattle.rules.proofs.BreachLaws.{onward_start, onward_step, onward_broken, onward_end}
use Rattle.rules.proofs.breach.late_breach.Goals as goal

-- the case keeps the limits
limits : (a : Admitted) → Limits a.case
limits a = limits_of_refusal_of a.case a.within

-- the mark of an hour, by the counts at its ends
mark : (f : ℕ → ℕ) (k next m : ℕ) → next ≡ k + 1 → m ≡ counted f next - counted f k → m ≡ f k
mark f k next m e is = omega (arith, ap (counted f) e, counted_more f k)

pub overflow_step-k : goal.overflow_step-k
overflow_step-k c = omega (arith, (limits c.args.counts.now.case.now).hours_le)

pub overflow_add-k-end : goal.overflow_add-k-end
overflow_add-k-end c = let h = limits c.args.counts.now.case.now in omega (arith, h.hours_le, h.falls_le)

pub loop-k-init : goal.loop-k-init
loop-k-init c = record { past = omega arith; hours = onward_start; held = c.requires }

pub overflow_cast-hour : goal.overflow_cast-hour
overflow_cast-hour c = let h = limits c.args.counts.now.case.now in omega (arith, h.hours_le, h.falls_le)

pub next-requires : goal.next-requires
next-requires c = let h = limits c.args.counts.now.case.now in omega (arith, h.hours_le, h.falls_le)

pub between-requires-clause-from_le_to : goal.between-requires-clause-from_le_to
between-requires-clause-from_le_to c =
    let h = limits c.args.counts.now.case.now in
    (omega arith, omega (arith, h.hours_le, h.falls_le))

pub returns-then-rule-ne0 : goal.returns-then-rule-ne0
returns-then-rule-ne0 c =
    let counts = c.args.counts.now in
    let case = counts.case.now.case in
    let l = counts.list.now in
    let k = c.loop-k.k in
    let h = c.loop-k.invariant in
    let is = mark (z case l) k _ _ c.next.ensures (c.between.ensures (z case l) counts.counted.stops) in
    onward_broken h.hours c.broken_after-rule.result (omega arith)
    (c.broken_after-rule.ensures l k h.past is h.held) c.if-rule-ne0.true

pub later-start-requires : goal.later-start-requires
later-start-requires c =
    let h = limits c.args.counts.now.case.now in
    omega (arith, c.loop-k.invariant.held.most, h.elapsed_le, h.hours_le, h.falls_le)

pub loop-k-preserved : goal.loop-k-preserved
loop-k-preserved c =
    let counts = c.args.counts.now in
    let case = counts.case.now.case in
    let l = counts.list.now in
    let k = c.loop-k.k in
    let h = c.loop-k.invariant in
    let is = mark (z case l) k _ _ c.next.ensures (c.between.ensures (z case l) counts.counted.stops) in
    record {
      past = omega (arith, h.past);
      hours = onward_step h.hours (omega arith)
          (sym (c.broken_after-rule.ensures l k h.past is h.held) ∙ c.if-rule-ne0.false);
      held = c.later-start.ensures case (y case l) k (omega (arith, h.past)) (sym (y_past case l k h.past)) h.held;
    }

pub returns : goal.returns
returns c =
    let h = limits c.args.counts.now.case.now in
    onward_end c.loop-k.invariant.hours (omega (arith, h.falls_pos))
