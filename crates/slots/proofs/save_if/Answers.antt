-- `slots::save_if` meets its contract, by the two outcomes of its test. Assumes nothing.
use mathlib.Core.Path.{sym, ap, ◌∙◌}
use Prim.Native.Nat.{◌*◌}
use Rattle.std.proofs.lemmas.Bool.{eqb-true, eqb-false}
use Rattle.slots.proofs.Slots.{saved_skip, saved_step}
use Rattle.slots.proofs.save_if.Goals as goal

pub returns-then-eq : goal.returns-then-eq
returns-then-eq c =
    let a = c.args in
    let slot = c.slot_from-slot in
    let own = sym slot.ensures.1 ∙ eqb-true _ _ (sym c.eq.ensures ∙ c.if-eq.true) in
    λ day l s. saved_step a.u a.l.0 a.n c.requires.k_lt_hours.1 day a.k.0 slot.result.number own
    (c.save_layer.ensures _ l) s

pub returns-else-eq : goal.returns-else-eq
returns-else-eq c =
    let a = c.args in
    let slot = c.slot_from-slot in
    let hour = slot.ensures.1 ∙ ap (λ n. n * a.l.0) slot.ensures.0 in
    λ day l s. saved_skip a.u a.l.0 a.n c.requires.k_lt_hours.1 day a.k.0
    (λ e. eqb-false _ _ (sym c.eq.ensures ∙ c.if-eq.false) (hour ∙ e)) s
