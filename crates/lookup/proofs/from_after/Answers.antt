-- `lookup::from_after` meets its contract, by where it looks. Assumes nothing.
use Rattle.std.proofs.Common.{rules, arith, sym, ap, ◌∙◌, ◌≡◌, ◌<◌, ◌*◌, ℕ, Bool, true, is_lt, nat_cmp}
use Rattle.std.proofs.lemmas.Bool.{eqb-true, eqb-false}
use Rattle.cells.proofs.Ends.{sized_at}
use Rattle.slots.proofs.Slots.{saved_at}
use Rattle.lookup.proofs.from_after.Goals as goal

-- the hour is before the end of the day
below : {t : Bool} (a b : ℕ) → t ≡ is_lt (nat_cmp a b) → t ≡ true → a < b
below a b e h = search rules

-- the slot is the hour's own
pub from_slot-requires-clause-sized : goal.from_slot-requires-clause-sized
from_slot-requires-clause-sized c =
    let a = c.args in
    let u = a.hour.now.unit in
    let inside = below a.k.0 u.hours.0 c.lt.ensures c.if-lt.true in
    let slot = c.slot_from-slot in
    let own = eqb-true _ _ (sym c.eq.ensures ∙ c.if-eq.true) in
    let (day, fair, saved, free, e) = c.requires.by_index in (
      _,
      sized_at u day a.hour.now.fit fair a.k.0,
      saved_at u a.stride.0 a.width c.requires.slotted.0 day a.k.0 slot.result.number (sym slot.ensures.1 ∙ own) inside
          saved,
      e,
    )

pub returns-then-eq : goal.returns-then-eq
returns-then-eq c =
    let a = c.args in
    let u = a.hour.now.unit in
    let inside = below a.k.0 u.hours.0 c.lt.ensures c.if-lt.true in
    let slot = c.slot_from-slot in
    let own = eqb-true _ _ (sym c.eq.ensures ∙ c.if-eq.true) in
    λ day fair saved free e. c.from_slot.ensures _ (sized_at u day a.hour.now.fit fair a.k.0)
    (saved_at u a.stride.0 a.width c.requires.slotted.0 day a.k.0 slot.result.number (sym slot.ensures.1 ∙ own) inside
    saved) e

-- the layer is among those that are kept
pub from_slot-requires-then-lt-clause-sized : goal.from_slot-requires-then-lt-clause-sized
from_slot-requires-then-lt-clause-sized c =
    let a = c.args in
    let u = a.hour.now.unit in
    let inside = below a.k.0 u.hours.0 c.lt.ensures c.if-lt.true in
    let slot = c.slot_from-slot.ensures in
    let other = eqb-false _ _ (sym c.eq.ensures ∙ c.if-eq.false) in
    let (day, fair, saved, free, e) = c.requires.by_index in
    let (there, spanned) = free inside (λ q. other (slot.1 ∙ ap (λ n. n * a.stride.0) slot.0 ∙ q)) in (
      _,
      sized_at u day a.hour.now.fit fair a.k.0,
      spanned.at a.k.0 (omega arith) there,
      e,
    )

pub returns-then-lt : goal.returns-then-lt
returns-then-lt c =
    let a = c.args in
    let u = a.hour.now.unit in
    let inside = below a.k.0 u.hours.0 c.lt.ensures c.if-lt.true in
    let slot = c.slot_from-slot.ensures in
    let other = eqb-false _ _ (sym c.eq.ensures ∙ c.if-eq.false) in
    λ day fair saved free e.
    let (there, spanned) = free inside (λ q. other (slot.1 ∙ ap (λ n. n * a.stride.0) slot.0 ∙ q)) in
    c.from_slot-then-lt.ensures _ (sized_at u day a.hour.now.fit fair a.k.0) (spanned.at a.k.0 (omega arith) there) e
