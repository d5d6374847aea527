-- The refusal of a record is the first number whose published limits it does not keep: each of the tests 2 to 8 and 13
-- is false exactly where the limits of its number are kept. Assumes nothing.
use mathlib.Core.Path.{◌≡◌}
use mathlib.Core.Logic.{◌↔◌}
use mathlib.Core.Bool.{true, false, ◌||◌}
use Prim.Native.Nat.{ℕ, suc, ◌+◌, ◌-◌, ◌<◌}
use native.Mathlib.Decide.{dec_lt}
use native.Mathlib.Numerals.{add-one}
use native.Mathlib.Omega.{arith}
use borrow.Author.Tests.{lt-ltb, le-leb, eq-eqb, ne_eqb}
use lib.Dec.{leb, ltb}
use lib.IntN.{pos, neg_ℤ}
use Rattle.cases.specs.declared.Case.{Case}
use Rattle.cases.specs.Limits.{most_stages, most_hours, most_output, most_time, most_elapsed, most_variable}
use Rattle.cases.specs.Limits.{most_charge, most_price, most_order}
use Rattle.cases.specs.Symbols.{high, low, RU, RD, up_time, down_time, UD, DD, PU, PD, last, order}
use Rattle.cases.specs.Symbols.{F, A, B, C, price, p0, h, up_stage, down_stage}
use Rattle.cases.specs.Refusals.{amounts, refusal2, refusal3, refusal4, refusal5, climbs, descends, refusal6}
use Rattle.cases.specs.Refusals.{opens_free, opens_up, opens_down, refusal7, refusal8, refusal13, first_of, tests}
use Rattle.cases.specs.Refusals.{refusal_of}
use Rattle.cases.specs.Published.{Trajectories, Opening, Limited, limit2, limit3, limit4, limit5, limit6, limit7}
use Rattle.cases.specs.Published.{limit8, limit13, FirstRefused, none, record_order}
use Rattle.cases.proofs.LimitsLaws.{Climbs, Descends, Between, Opened, opened_free, opened_up, opened_down}
use Rattle.cases.proofs.LimitsLaws.{between_within, amounts_within, all_every, counts, outputs, rates, money}
use Rattle.cases.proofs.LimitsLaws.{trajectories, opening, orders, prices}
use Rattle.cases.proofs.RefusalsLaws.{first_exactly, first_test}

module _ (c : Case) where
  -- ---- a record that keeps the limits of a number passes its test
  passes2 : Limited c 2 → refusal2 c ≡ false
  unfolding refusal2
  passes2 (limit2 n) =
      rw (
        between_within 1 most_stages c.rises n.rises,
        between_within 1 most_stages c.falls n.falls,
        between_within 1 most_hours c.hours n.hours,
      )

  passes3 : Limited c 3 → refusal3 c ≡ false
  unfolding refusal3
  passes3 (limit3 o) =
      rw (
        between_within 1 (high c) (low c) o.minimum,
        le-leb (high c) most_output o.capacity,
      )

  passes4 : Limited c 4 → refusal4 c ≡ false
  unfolding refusal4
  passes4 (limit4 r) =
      rw (
        between_within 1 most_output (RU c) r.rampup,
        between_within 1 most_output (RD c) r.rampdown,
        between_within 1 most_time (up_time c) r.minup,
        between_within 1 most_time (down_time c) r.mindown,
      )

  passes5 : Limited c 5 → refusal5 c ≡ false
  unfolding refusal5
  passes5 (limit5 m) =
      rw (
        amounts_within (pos 0) (pos most_variable) (F c) m.variable,
        amounts_within (pos 0) (pos most_charge) (A c) m.fixed,
        amounts_within (pos 0) (pos most_charge) (B c) m.startcost,
        amounts_within (pos 0) (pos most_charge) (C c) m.stopcost,
      )

  climbed : Trajectories c → climbs c ≡ true
  unfolding climbs
  climbed t =
      let up = all_every (λ i. ltb (PU c i) (PU c (suc i))) (UD c - 1)
      (λ i a b. lt-ltb (PU c i) (PU c (suc i)) (rw add-one at (t.rising i a (omega arith)))) in
      rw (le-leb 1 (PU c 1) t.rise_from, up, eq-eqb (PU c (UD c)) (low c) t.rise_to)

  descended : Trajectories c → descends c ≡ true
  unfolding descends
  descended t =
      let down = all_every (λ i. ltb (PD c (suc i)) (PD c i)) (DD c - 1)
      (λ i a b. lt-ltb (PD c (suc i)) (PD c i) (rw add-one at (t.falling i a (omega arith)))) in
      rw (eq-eqb (PD c 1) (low c) t.fall_from, down, le-leb 1 (PD c (DD c)) t.fall_to)

  passes6 : Limited c 6 → refusal6 c ≡ false
  unfolding refusal6
  passes6 (limit6 t) = rw (climbed t, descended t)

  -- the opening by its three cases
  opened : Opening c → Opened c
  opened o = go (dec_lt 0 (up_stage c)) (dec_lt 0 (down_stage c))
    where
      go : Dec (0 < up_stage c) → Dec (0 < down_stage c) → Opened c
      go (yes u) d = let (a, e, t) = o.up u in opened_up (o.single u) u a e t
      go (no u) (yes d) = let (a, b, e, t) = o.down d in opened_down (omega arith) a b e t
      go (no u) (no d) = opened_free (omega arith) (omega arith) (o.free (omega arith) (omega arith))

  opens : Opened c → (opens_free c || (opens_up c || opens_down c)) ≡ true
  unfolding opens_free opens_up opens_down
  opens (opened_free u d f) = go (dec_lt 0 (p0 c))
    where
      go : Dec (0 < p0 c) → (opens_free c || (opens_up c || opens_down c)) ≡ true
      go (yes on) =
          let (low_le, high_le, risen) = f on in
          rw (
            eq-eqb (up_stage c) 0 u,
            eq-eqb (down_stage c) 0 d,
            ne_eqb (p0 c) 0 (λ z. omega arith),
            between_within (low c) (high c) (p0 c) (low_le, high_le),
            le-leb (UD c) (h c) risen,
          )
      go (no off) =
          rw (eq-eqb (up_stage c) 0 u, eq-eqb (down_stage c) 0 d, eq-eqb (p0 c) 0 (omega arith))
  opens (opened_up d a b e t) =
      rw (
        ne_eqb (up_stage c) 0 (λ z. omega arith),
        eq-eqb (down_stage c) 0 d,
        between_within 1 (UD c - 1) (up_stage c) (a, omega arith),
        eq-eqb (p0 c) (PU c (up_stage c)) e,
        eq-eqb (h c) (up_stage c) t,
      )
  opens (opened_down u a b e t) =
      rw (
        eq-eqb (up_stage c) 0 u,
        ne_eqb (down_stage c) 0 (λ z. omega arith),
        between_within 2 (DD c) (down_stage c) (a, b),
        eq-eqb (p0 c) (PD c (down_stage c)) e,
        le-leb (UD c + down_stage c - 1) (h c) (omega arith),
      )

  passes7 : Limited c 7 → refusal7 c ≡ false
  unfolding refusal7
  passes7 (limit7 o) = rw (between_within 1 most_elapsed (h c) o.elapsed, opens (opened o))

  passes8 : Limited c 8 → refusal8 c ≡ false
  unfolding refusal8
  passes8 (limit8 o) =
      rw (all_every (λ k. leb (order c k) most_order) (last c) (λ k a b. le-leb (order c k) most_order (o.orders k a b)))

  passes13 : Limited c 13 → refusal13 c ≡ false
  unfolding refusal13
  passes13 (limit13 p) =
      rw (all_every (λ k. amounts (neg_ℤ (pos most_price)) (pos most_price) (price c k)) (last c)
      (λ k a b. amounts_within (neg_ℤ (pos most_price)) (pos most_price) (price c k) (p.prices k a b)))

  -- ---- and the other way
  limited2 : (refusal2 c ≡ false) ↔ Limited c 2
  limited2 = (λ e. let (r, f, h) = counts c e in limit2 (record { rises = r; falls = f; hours = h }), passes2)

  limited3 : (refusal3 c ≡ false) ↔ Limited c 3
  limited3 = (λ e. let (m, h) = outputs c e in limit3 (record { minimum = m; capacity = h }), passes3)

  limited4 : (refusal4 c ≡ false) ↔ Limited c 4
  limited4 = (
    λ e. let (u, d, m, n) = rates c e in
        limit4 (record { rampup = u; rampdown = d; minup = m; mindown = n }),
    passes4,
  )

  limited5 : (refusal5 c ≡ false) ↔ Limited c 5
  limited5 = (
    λ e. let (f, a, b, z) = money c e in
        limit5 (record { variable = f; fixed = a; startcost = b; stopcost = z }),
    passes5,
  )

  shaped : Climbs c × Descends c → Trajectories c
  shaped (u, d) =
      record {
        rise_from = u.0;
        rise_to = u.2;
        rising = λ i a b. rw add-one (u.1 i a b);
        fall_from = d.0;
        fall_to = d.2;
        falling = λ i a b. rw add-one (d.1 i a b);
      }

  limited6 : (refusal6 c ≡ false) ↔ Limited c 6
  limited6 = (λ e. limit6 (shaped (trajectories c e)), passes6)

  published : Between 1 most_elapsed (h c) → Opened c → Opening c
  published b (opened_free u d f) =
      record {
        elapsed = b;
        single = λ some. d;
        free = λ x y. f;
        up = λ some. absurd (omega arith);
        down = λ some. absurd (omega arith);
      }
  published b (opened_up d x y e t) =
      record {
        elapsed = b;
        single = λ some. d;
        free = λ none. absurd (omega arith);
        up = λ some. (y, e, t);
        down = λ some. absurd (omega arith);
      }
  published b (opened_down u x y e t) =
      record {
        elapsed = b;
        single = λ some. absurd (omega arith);
        free = λ p none. absurd (omega arith);
        up = λ some. absurd (omega arith);
        down = λ some. (x, y, e, t);
      }

  limited7 : (refusal7 c ≡ false) ↔ Limited c 7
  limited7 = (λ e. let (b, o) = opening c e in limit7 (published b o), passes7)

  limited8 : (refusal8 c ≡ false) ↔ Limited c 8
  limited8 = (λ e. limit8 (record { orders = orders c e }), passes8)

  limited13 : (refusal13 c ≡ false) ↔ Limited c 13
  limited13 = (λ e. limit13 (record { prices = prices c e }), passes13)

  -- ---- the tests in turn
  pub refusal_of_first : FirstRefused (Limited c) record_order (refusal_of c)
  unfolding first_of tests refusal_of
  refusal_of_first =
      first_test (refusal2 c) limited2
      (first_test (refusal3 c) limited3
      (first_test (refusal4 c) limited4
      (first_test (refusal5 c) limited5
      (first_test (refusal6 c) limited6
      (first_test (refusal7 c) limited7
      (first_test (refusal8 c) limited8 (first_test (refusal13 c) limited13 none)))))))

pub limits : (c : Case) (n : ℕ) → (refusal_of c ≡ n) ↔ FirstRefused (Limited c) record_order n
limits c = first_exactly (refusal_of_first c)
