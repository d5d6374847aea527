-- Two records that one file holds keep the same limits. Assumes nothing.
use mathlib.Core.Path.{◌≡◌, refl, sym, ap, ◌∙◌}
use mathlib.Core.Logic.{⊎_elim}
use Prim.Native.Nat.{ℕ, zero, suc, ◌+◌, ◌≤◌, ◌<◌}
use native.Mathlib.Omega.{arith}
use mathlib.Core.List.{List}
use lib.IntN.{ℤ}
use Rattle.cases.specs.declared.Case.{Case}
use Rattle.cases.specs.Symbols.{stage, hourly, priced}
use Rattle.cases.specs.Published.{Counts, Costs, Trajectories, Opening, Orders, Prices, Limited, limit2, limit3}
use Rattle.cases.specs.Published.{limit4, limit5, limit6, limit7, limit8, limit13, Signed, above, below}
use Rattle.cases.specs.Published.{Stageless, Holds}
use Rattle.cases.proofs.PublishedLaws.{stageless_test}

-- bits have one signed number
pub signed_unique : {n : ℕ} {a b : ℤ} → Signed n a → Signed n b → a ≡ b
signed_unique (above h) (above k) = refl
signed_unique (above h) (below k) = absurd (omega arith)
signed_unique (below h) (above k) = absurd (omega arith)
signed_unique (below h) (below k) = refl

module _ {s : List ℕ} {c d : Case} (h : Holds s c) (k : Holds s d) (counts : Counts d) where
  rises_same : d.rises ≡ c.rises
  rises_same = omega (arith, h.measured.rise, k.measured.rise)

  falls_same : d.falls ≡ c.falls
  falls_same = omega (arith, h.measured.fall, k.measured.fall)

  hours_same : d.hours ≡ c.hours
  hours_same =
      ⊎_elim (λ z. omega (arith, h.measured.old_hours z, k.measured.old_hours z))
      (λ z. omega (arith, h.measured.hours z, k.measured.hours z)) h.chained.forms

  rise_same : (i : ℕ) → i ≤ d.rises → stage d.rise i ≡ stage c.rise i
  unfolding stage
  rise_same zero l = refl
  rise_same (suc i) l = sym (k.rise i l) ∙ h.rise i (omega (arith, rises_same))

  fall_same : (i : ℕ) → i ≤ d.falls → stage d.fall i ≡ stage c.fall i
  unfolding stage
  fall_same zero l = refl
  fall_same (suc i) l = sym (k.fall i l) ∙ h.fall i (omega (arith, falls_same))

  stages_same : (d.upstage ≡ c.upstage) × (d.downstage ≡ c.downstage)
  stages_same = go (stageless_test s)
    where
      go : Dec (Stageless s) → (d.upstage ≡ c.upstage) × (d.downstage ≡ c.downstage)
      go (yes z) = omega (arith, h.no_stages z, k.no_stages z)
      go (no z) = (sym (k.upstage z) ∙ h.upstage z, sym (k.downstage z) ∙ h.downstage z)

  order_same : (i : ℕ) → i ≤ d.hours → hourly d.orders i ≡ hourly c.orders i
  unfolding hourly
  order_same zero l = refl
  order_same (suc i) l =
      let m : i < c.hours = omega (arith, hours_same) in
      ⊎_elim (λ z. sym (k.old_orders z i l) ∙ h.old_orders z i m) (λ z. sym (k.orders z i l) ∙ h.orders z i m)
      h.chained.forms

  price_same : (i : ℕ) → i ≤ d.hours → priced d.prices i ≡ priced c.prices i
  unfolding priced
  price_same zero l = refl
  price_same (suc i) l =
      let m : i < c.hours = omega (arith, hours_same) in
      ⊎_elim (λ z. signed_unique (k.old_prices z i l) (h.old_prices z i m))
      (λ z. signed_unique (k.prices z i l) (h.prices z i m)) h.chained.forms

  trajectories_same : Trajectories c → Trajectories d
  trajectories_same t =
      record {
        rise_from = omega (arith, rise_same 1 counts.rises.0);
        rise_to = rise_same d.rises (omega arith) ∙ rw rises_same (omega arith);
        rising = λ i a b.
            let here = rise_same i (omega arith) in
            let next = rise_same (i + 1) (omega arith) in
            omega (arith, t.rising i a (omega (arith, rises_same)));
        fall_from = omega (arith, fall_same 1 counts.falls.0);
        fall_to = rw (fall_same d.falls (omega arith), falls_same) t.fall_to;
        falling = λ i a b.
            let here = fall_same i (omega arith) in
            let next = fall_same (i + 1) (omega arith) in
            omega (arith, t.falling i a (omega (arith, falls_same)));
      }

  opening_same : Opening c → Opening d
  opening_same o =
      let (up, down) = stages_same in
      record {
        elapsed = omega arith;
        single = λ some. omega (arith, o.single (omega arith));
        free = λ x y on. omega (arith, rises_same, o.free (omega arith) (omega arith) (omega arith));
        up = λ some.
            let (lower, output, aged) = o.up (omega arith) in
            let same = rise_same d.upstage (omega (arith, rises_same)) ∙ ap (stage c.rise) up in
            omega (arith, rises_same);
        down = λ some.
            let (upper, lower, output, aged) = o.down (omega arith) in
            let same = fall_same d.downstage (omega (arith, falls_same)) ∙ ap (stage c.fall) down in
            omega (arith, rises_same, falls_same);
      }

  orders_same : Orders c → Orders d
  orders_same o =
      record { orders = λ i a b. omega (arith, order_same i b, o.orders i a (omega (arith, hours_same))) }

  costs_same : Costs c → Costs d
  costs_same m =
      record {
        variable = rw (signed_unique k.variable h.variable) m.variable;
        fixed = rw (signed_unique k.fixed h.fixed) m.fixed;
        startcost = rw (signed_unique k.startcost h.startcost) m.startcost;
        stopcost = rw (signed_unique k.stopcost h.stopcost) m.stopcost;
      }

  prices_same : Prices c → Prices d
  prices_same p =
      record { prices = λ i a b. rw (price_same i b) (p.prices i a (omega (arith, hours_same))) }

  pub limited_same : {n : ℕ} → Limited c n → Limited d n
  limited_same (limit2 n) = limit2 counts
  limited_same (limit3 o) = limit3 (omega arith)
  limited_same (limit4 r) = limit4 (omega arith)
  limited_same (limit5 m) = limit5 (costs_same m)
  limited_same (limit6 t) = limit6 (trajectories_same t)
  limited_same (limit7 o) = limit7 (opening_same o)
  limited_same (limit8 o) = limit8 (orders_same o)
  limited_same (limit13 p) = limit13 (prices_same p)
