-- The unit of a case: its entries are the case's up to the counts and 0 past them. Assumes nothing.
use mathlib.Core.Path.{◌≡◌, refl, sym, ap, ◌∙◌}
use mathlib.Core.Bool.{true, not, cond}
use mathlib.Core.List.{List}
use Prim.Native.Nat.{ℕ, zero, suc, ◌≤◌, ◌<◌}
use native.Mathlib.Decide.{dec_lt}
use native.Mathlib.Omega.{arith}
use borrow.Author.Tests.{ne_eqb, eqb-false, not-true}
use lib.Dec.{eqb, eqb-suc-zero}
use lib.IntN.{ℤ, pos, ◌-ℤ◌}
use lib.ListN.{get_or, get_or-eq_default}
use Rattle.cases.specs.declared.Case.{Case}
use Rattle.quantities.specs.declared.Mills.{Mills}
use Rattle.quantities.specs.declared.Output.{Output}
use Rattle.cases.specs.Limits.{most_stages, most_hours}
use Rattle.cases.specs.Symbols.{UD, DD, PU, PD, last, price, order}
use Rattle.cases.specs.Layout.{padded, no_output, no_mills}
use Rattle.cases.proofs.LimitsLaws.{Limits}
use Rattle.day.specs.Words.{Ordered}
use Rattle.cases.proofs.LayoutLaws.{length_padded, get_d_padded_in, get_d_padded_past}
use Rattle.cases.proofs.SymbolsLaws.{stage_suc, hourly_suc, priced_suc}
use Rattle.machine.specs.declared.Rates.{Rates}
use Rattle.machine.specs.Moves.{pu_at, pd_at, obeys}
use Rattle.machine.specs.Cases.{unit_of, margins_of, orders_of, tariff_at}

-- past the count every entry is the filling, past the array too
padded_rest : {X : Type 0} (d : X) (f : ℕ → X) (n size i : ℕ) → n ≤ i → get_or (padded d f n size) i d ≡ d
padded_rest d f n size i h = go (dec_lt i size)
  where
    go : Dec (i < size) → get_or (padded d f n size) i d ≡ d
    go (yes l) = get_d_padded_past d f n size d i h l
    go (no l) = get_or-eq_default (padded d f n size) d (omega (arith, length_padded d f n size))

-- an order allows an output: on-line unless it is 2, off-line unless it is 1
allows_of : (o q : ℕ) → (o ≡ 1 → 1 ≤ q) → (o ≡ 2 → q ≡ 0) → cond (eqb q 0) (not (eqb o 1)) (not (eqb o 2)) ≡ true
allows_of o zero f g = ap not (ne_eqb o 1 (λ e. omega (arith, f e)))
allows_of o (suc q) f g = rw (eqb-suc-zero q) (ap not (ne_eqb o 2 (λ e. omega (arith, g e))))

of_allows : (o q : ℕ) → cond (eqb q 0) (not (eqb o 1)) (not (eqb o 2)) ≡ true → (o ≡ 1 → 1 ≤ q) × (o ≡ 2 → q ≡ 0)
of_allows o zero e = (λ d. absurd (eqb-false o 1 (not-true (eqb o 1) e) d), λ d. refl)
of_allows o (suc q) e =
    (λ d. omega arith, λ d. absurd (eqb-false o 2 (not-true (eqb o 2) (rw (eqb-suc-zero q) at e)) d))

module _ (c : Case) where
  pub pu_past : (i : ℕ) → UD c ≤ i → pu_at (unit_of c) i ≡ 0
  unfolding unit_of
  pu_past i h =
      ap (λ (o : Output). o.0) (padded_rest no_output (λ i. get_or c.rise i no_output) (UD c) most_stages i h)

  pub pd_past : (i : ℕ) → DD c ≤ i → pd_at (unit_of c) i ≡ 0
  unfolding unit_of
  pd_past i h =
      ap (λ (o : Output). o.0) (padded_rest no_output (λ i. get_or c.fall i no_output) (DD c) most_stages i h)

  -- the margin of an hour: its price less what its energy costs
  pub margin_past : (m : Mills) (k : ℕ) → last c ≤ k → get_or (margins_of c m) k (pos 0) ≡ pos 0
  unfolding margins_of
  margin_past m k h = padded_rest (pos 0) (λ k. (get_or c.prices k no_mills).0 -ℤ m.0) (last c) most_hours k h

  module _ (lim : Limits c) where
    pub pu_at_is : (i : ℕ) → i < UD c → pu_at (unit_of c) i ≡ PU c (suc i)
    unfolding unit_of
    pu_at_is i h =
        let room : i < most_stages = omega (arith, lim.rises_le) in
        ap (λ (o : Output). o.0)
        (get_d_padded_in no_output (λ i. get_or c.rise i no_output) (UD c) most_stages no_output i h room)
        ∙ sym (stage_suc c.rise i)

    pub pd_at_is : (i : ℕ) → i < DD c → pd_at (unit_of c) i ≡ PD c (suc i)
    unfolding unit_of
    pd_at_is i h =
        let room : i < most_stages = omega (arith, lim.falls_le) in
        ap (λ (o : Output). o.0)
        (get_d_padded_in no_output (λ i. get_or c.fall i no_output) (DD c) most_stages no_output i h room)
        ∙ sym (stage_suc c.fall i)

    pub margin_at : (m : Mills) (k : ℕ) → k < last c → get_or (margins_of c m) k (pos 0) ≡ price c (suc k) -ℤ m.0
    unfolding margins_of
    margin_at m k h =
        let room : k < most_hours = omega (arith, lim.hours_le) in
        get_d_padded_in (pos 0) (λ k. (get_or c.prices k no_mills).0 -ℤ m.0) (last c) most_hours (pos 0) k h room
        ∙ ap (λ x. x -ℤ m.0) (sym (priced_suc c.prices k))

    order_at : (k : ℕ) → k < last c → get_or (orders_of c) k 0 ≡ order c (suc k)
    unfolding orders_of
    order_at k h =
        get_d_padded_in 0 (λ k. get_or c.orders k 0) (last c) most_hours 0 k h (omega (arith, lim.hours_le))
        ∙ sym (hourly_suc c.orders k)

    -- the order of an hour, from 0, allows an output
    pub obeys_of_ordered : (r : Rates) (costs : List ℤ) (k q : ℕ) → k < last c → Ordered c (suc k) q
        → obeys (tariff_at c r costs k) q ≡ true
    unfolding obeys
    obeys_of_ordered r costs k q h o = rw (order_at k h) (allows_of (order c (suc k)) q o.on_line o.off_line)

    pub ordered_of_obeys : (r : Rates) (costs : List ℤ) (k q : ℕ) → k < last c → obeys (tariff_at c r costs k) q ≡ true
        → Ordered c (suc k) q
    unfolding obeys
    ordered_of_obeys r costs k q h e =
        let (a, b) = of_allows (order c (suc k)) q (rw (order_at k h) at e) in
        record { on_line = a; off_line = b; known = lim.order_le (suc k) (omega arith) h }
