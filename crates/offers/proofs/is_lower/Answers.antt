-- `offers::is_lower` meets its contract: the lists are alike before the outputs that are looked at. Assumes nothing.
use Rattle.std.proofs.Common.{arith, sym, ap, ◌≡◌, ◌∙◌, ℕ, List, [], ◌∷◌, length, false}
use mathlib.Core.Logic.{⊎_elim}
use Rattle.model.specs.Best.{lower}
use Rattle.model.proofs.LeadsLaws.{lower_differ, lower_next, lower_nil}
use Rattle.offers.proofs.is_lower.Goals as goal

-- nothing is left of the first
none_left : (l m : List ℕ) → length l ≡ 0 → lower l m ≡ false
none_left [] m e = lower_nil m
none_left (a ∷ l) m e = absurd (omega arith)

pub returns-then-own-other : goal.returns-then-own-other
returns-then-own-other c =
    let (x, y) = c.in-Some.ensures.steps in
    let onward = c.loop-own.invariant.onward in
    cc (lower_differ c.in-Some.field-0-0.now c.in-Some.field-0-1.now c.next.new.self.a.rest.now
    c.next.new.self.b.rest.now c.if-own-other.true)

pub loop-own-preserved : goal.loop-own-preserved
loop-own-preserved c =
    let (x, y) = c.in-Some.ensures.steps in
    let onward = c.loop-own.invariant.onward in
    record {
      can_next = (tt, tt);
      is_finite = tt;
      even = omega (arith, c.loop-own.invariant.even, ap length x, ap length y);
      onward = cc (lower_next c.in-Some.field-0-0.now c.in-Some.field-0-1.now c.next.new.self.a.rest.now
          c.next.new.self.b.rest.now c.if-own-other.false);
    }

pub returns : goal.returns
returns c =
    let empty : length c.loop-own.own-iterator.a.rest.now ≡ 0 =
    ⊎_elim (λ (_, (e, _)). e) (λ (_, (e, _)). c.loop-own.invariant.even ∙ e) c.in-None.ensures.steps in
    sym (c.loop-own.invariant.onward
    ∙ none_left c.loop-own.own-iterator.a.rest.now c.loop-own.own-iterator.b.rest.now empty)
