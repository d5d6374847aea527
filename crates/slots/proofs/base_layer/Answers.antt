-- `slots::base_layer` meets its contract, by the two outcomes of its test. Assumes nothing.
use Rattle.std.proofs.Common.{rules, arith, sym, ap, ◌<◌, ◌*◌}
use Rattle.slots.proofs.Slots.{slot_from_is, saved_at}
use Rattle.slots.proofs.base_layer.Goals as goal

pub returns-then-lt : goal.returns-then-lt
returns-then-lt c =
    let a = c.args in
    let slot = c.slot_from-slot in
    let slotted = c.requires.k_le_hours.1 in
    let below : slot.result.hour.0 < a.u.hours.0 = search rules in
    λ day saved. record {
      from = omega (
        arith,
        slot_from_is a.l.0 a.k.0 slotted.stride_pos,
        slot.ensures.1,
        ap (λ n. n * a.l.0) slot.ensures.0,
      );
      to = omega (arith, below);
      layer = c.load_layer.ensures _
          (saved_at a.u a.l.0 a.n slotted day slot.result.hour.0 slot.result.number (sym slot.ensures.1) below saved);
    }

pub returns : goal.returns
returns c =
    λ day saved. record {
      from = c.requires.k_le_hours.0;
      to = omega arith;
      layer = record { row = c.end_row.ensures day 0; side = c.end_side.ensures day };
    }
