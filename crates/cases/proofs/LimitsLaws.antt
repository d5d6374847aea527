-- What a case within the limits keeps to, as plain inequalities: a case that none of the refusals 2 to 8 and 13 applies
-- to (document 01, "Refusal list"; requests F-2 and F-5) has all of them. Assumes nothing.
use mathlib.Core.Path.{◌≡◌, refl, ap, ◌∙◌}
use mathlib.Core.Logic.{⊎_elim}
use mathlib.Core.Bool.{Bool, true, false, ◌&&◌, cond}
use Prim.Native.Nat.{ℕ, zero, suc, ◌+◌, ◌-◌, ◌≤◌, ◌<◌}
use native.Mathlib.Omega.{arith}
use native.Mathlib.Nat.{le-suc_iff}
use borrow.Author.Tests.{leb-true, ltb-true, le-leb, eqb-true, not-false}
use lib.Dec.{leb, ltb, eqb, leb→le}
use lib.IntN.{ℤ, pos, negsuc, neg_ℤ, nat_abs}
use lib.Signed.{le_z, ◌≤ℤ◌}
use Rattle.laws.proofs.Tests.{both, either, t_to_true, true_to_t}
use Rattle.cases.specs.declared.Case.{Case}
use Rattle.cases.specs.Limits.{most_stages, most_hours, most_output, most_time, most_elapsed, most_variable}
use Rattle.cases.specs.Limits.{most_charge, most_price, most_order}
use Rattle.cases.specs.Symbols.{every, high, low, RU, RD, up_time, down_time, UD, DD, PU, PD, last, order}
use Rattle.cases.specs.Symbols.{F, A, B, C, price, p0, h, up_stage, down_stage}
use Rattle.cases.specs.Refusals.{within, amounts, refusal2, refusal3, refusal4, refusal5, climbs, descends}
use Rattle.cases.specs.Refusals.{refusal6, opens_free, opens_up, opens_down, refusal7, refusal8, refusal13}
use Rattle.cases.specs.Refusals.{first_of, tests, refusal_of}

-- an amount from 0 to so much
pub record Amount (most : ℕ) (z : ℤ) : Type 0 where
  pub is : z ≡ pos (nat_abs z)
  pub le : nat_abs z ≤ most

abbrev pub Between : ℕ → ℕ → ℕ → Type 0
Between lo hi x = (lo ≤ x) × (x ≤ hi)

-- the opening: in no sequence, in a start-up, or in a shut-down
pub data Opened (c : Case) : Type 0 where
  opened_free : up_stage c ≡ 0 → down_stage c ≡ 0 → (1 ≤ p0 c → (low c ≤ p0 c) × (p0 c ≤ high c) × (UD c ≤ h c))
      → Opened c
  opened_up : down_stage c ≡ 0 → 1 ≤ up_stage c → up_stage c < UD c → p0 c ≡ PU c (up_stage c) → h c ≡ up_stage c
      → Opened c
  opened_down : up_stage c ≡ 0 → 2 ≤ down_stage c → down_stage c ≤ DD c → p0 c ≡ PD c (down_stage c)
      → UD c + down_stage c ≤ h c + 1 → Opened c

-- the limits of the refusal list, a field for each bound
pub record Limits (c : Case) : Type 0 where
  -- 2: the counts
  pub rises_pos : 1 ≤ UD c
  pub rises_le : UD c ≤ most_stages
  pub falls_pos : 1 ≤ DD c
  pub falls_le : DD c ≤ most_stages
  pub hours_pos : 1 ≤ last c
  pub hours_le : last c ≤ most_hours
  -- 3: the outputs
  pub minimum_pos : 1 ≤ low c
  pub minimum_le : low c ≤ high c
  pub capacity_le : high c ≤ most_output
  -- 4: the ramps and the minimum times
  pub rampup_pos : 1 ≤ RU c
  pub rampup_le : RU c ≤ most_output
  pub rampdown_pos : 1 ≤ RD c
  pub rampdown_le : RD c ≤ most_output
  pub minup_pos : 1 ≤ up_time c
  pub minup_le : up_time c ≤ most_time
  pub mindown_pos : 1 ≤ down_time c
  pub mindown_le : down_time c ≤ most_time
  -- 5: costs
  pub variable_in : Amount most_variable (F c)
  pub fixed_in : Amount most_charge (A c)
  pub startcost_in : Amount most_charge (B c)
  pub stopcost_in : Amount most_charge (C c)
  -- 6: the trajectories
  pub rise_pos : 1 ≤ PU c 1
  pub rise_up : (i : ℕ) → 1 ≤ i → i < UD c → PU c i < PU c (suc i)
  pub rise_top : PU c (UD c) ≡ low c
  pub fall_top : PD c 1 ≡ low c
  pub fall_down : (i : ℕ) → 1 ≤ i → i < DD c → PD c (suc i) < PD c i
  pub fall_pos : 1 ≤ PD c (DD c)
  -- 7: the opening
  pub elapsed_pos : 1 ≤ h c
  pub elapsed_le : h c ≤ most_elapsed
  pub opened : Opened c
  -- 8: the orders
  pub order_le : (k : ℕ) → 1 ≤ k → k ≤ last c → order c k ≤ most_order
  -- 13: the prices
  pub price_le : (k : ℕ) → 1 ≤ k → k ≤ last c → nat_abs (price c k) ≤ most_price

-- no refusal of 2 to 8 and 13 applies
pub record Passed (c : Case) : Type 0 where
  pub passes2 : refusal2 c ≡ false
  pub passes3 : refusal3 c ≡ false
  pub passes4 : refusal4 c ≡ false
  pub passes5 : refusal5 c ≡ false
  pub passes6 : refusal6 c ≡ false
  pub passes7 : refusal7 c ≡ false
  pub passes8 : refusal8 c ≡ false
  pub passes13 : refusal13 c ≡ false

pub within_true : (lo hi x : ℕ) → within lo hi x ≡ true → Between lo hi x
within_true lo hi x e =
    let (a, b) = both (leb lo x) (leb x hi) e in
    (leb-true lo x a, leb-true x hi b)

-- the same of amounts
abbrev pub Amounts : ℤ → ℤ → ℤ → Type 0
Amounts lo hi x = (lo ≤ℤ x) × (x ≤ℤ hi)

amounts_true : (lo hi x : ℤ) → amounts lo hi x ≡ true → Amounts lo hi x
amounts_true lo hi x e =
    let (a, b) = both (le_z lo x) (le_z x hi) e in
    (record { le = true_to_t (le_z lo x) a }, record { le = true_to_t (le_z x hi) b })

pub amounts_within : (lo hi x : ℤ) → Amounts lo hi x → amounts lo hi x ≡ true
amounts_within lo hi x b = rw (t_to_true (le_z lo x) b.0.le, t_to_true (le_z x hi) b.1.le)

amount_of : (most : ℕ) (z : ℤ) → Amounts (pos 0) (pos most) z → Amount most z
amount_of most (pos n) a = record { is = refl; le = leb→le n most a.1.le }
amount_of most (negsuc n) a = absurd a.0.le

price_of : (z : ℤ) → Amounts (neg_ℤ (pos most_price)) (pos most_price) z → nat_abs z ≤ most_price
price_of (pos n) a = leb→le n most_price a.1.le
price_of (negsuc n) a = omega (arith, leb→le n (most_price - 1) a.0.le)

pub every_true : (f : ℕ → Bool) (n : ℕ) → every f n ≡ true → (i : ℕ) → 1 ≤ i → i ≤ n → f i ≡ true
unfolding every
every_true f zero e i a b = absurd (omega arith)
every_true f (suc n) e i a b =
    let (x, y) = both (every f n) (f (suc n)) e in
    ⊎_elim (λ (l : i ≤ n). every_true f n x i a l) (λ (q : i ≡ suc n). ap f q ∙ y) (le-suc_iff.0 b)

-- and the other way
pub between_within : (lo hi x : ℕ) → Between lo hi x → within lo hi x ≡ true
between_within lo hi x b = rw (le-leb lo x b.0, le-leb x hi b.1)

pub all_every : (f : ℕ → Bool) (n : ℕ) → ((i : ℕ) → 1 ≤ i → i ≤ n → f i ≡ true) → every f n ≡ true
unfolding every
all_every f zero h = refl
all_every f (suc n) h = rw (all_every f n (λ i a b. h i a (omega arith)), h (suc n) (omega arith) (omega arith))

-- the first of two numbers
pub first_zero : (n : ℕ) (t : Bool) (r : ℕ) → cond t (suc n) r ≡ 0 → (t ≡ false) × (r ≡ 0)
first_zero n true r e = absurd (omega arith)
first_zero n false r e = (refl, e)

module _ (c : Case) where
  pub passed_of_refusal_of : refusal_of c ≡ 0 → Passed c
  unfolding refusal_of tests first_of
  passed_of_refusal_of e =
      let (a2, e2) = first_zero 1 (refusal2 c) _ e in
      let (a3, e3) = first_zero 2 (refusal3 c) _ e2 in
      let (a4, e4) = first_zero 3 (refusal4 c) _ e3 in
      let (a5, e5) = first_zero 4 (refusal5 c) _ e4 in
      let (a6, e6) = first_zero 5 (refusal6 c) _ e5 in
      let (a7, e7) = first_zero 6 (refusal7 c) _ e6 in
      let (a8, e8) = first_zero 7 (refusal8 c) _ e7 in
      let (a13, e13) = first_zero 12 (refusal13 c) _ e8 in
      record {
        passes2 = a2;
        passes3 = a3;
        passes4 = a4;
        passes5 = a5;
        passes6 = a6;
        passes7 = a7;
        passes8 = a8;
        passes13 = a13;
      }

  -- what each test says
  pub counts : refusal2 c ≡ false
      → Between 1 most_stages (UD c) × Between 1 most_stages (DD c) × Between 1 most_hours (last c)
  unfolding refusal2
  counts e =
      let (a, r) = both (within 1 most_stages (UD c)) _ (not-false _ e) in
      let (b, d) = both (within 1 most_stages (DD c)) (within 1 most_hours (last c)) r in
      (within_true 1 most_stages (UD c) a, within_true 1 most_stages (DD c) b, within_true 1 most_hours (last c) d)

  pub outputs : refusal3 c ≡ false → Between 1 (high c) (low c) × (high c ≤ most_output)
  unfolding refusal3
  outputs e =
      let (a, b) = both (within 1 (high c) (low c)) (leb (high c) most_output) (not-false _ e) in
      (within_true 1 (high c) (low c) a, leb-true (high c) most_output b)

  pub rates : refusal4 c ≡ false
      → Between 1 most_output (RU c)
      × Between 1 most_output (RD c)
      × Between 1 most_time (up_time c)
      × Between 1 most_time (down_time c)
  unfolding refusal4
  rates e =
      let (a, r) = both (within 1 most_output (RU c)) _ (not-false _ e) in
      let (b, s) = both (within 1 most_output (RD c)) _ r in
      let (d, f) = both (within 1 most_time (up_time c)) (within 1 most_time (down_time c)) s in (
        within_true 1 most_output (RU c) a,
        within_true 1 most_output (RD c) b,
        within_true 1 most_time (up_time c) d,
        within_true 1 most_time (down_time c) f,
      )

  pub money : refusal5 c ≡ false
      → Amounts (pos 0) (pos most_variable) (F c)
      × Amounts (pos 0) (pos most_charge) (A c)
      × Amounts (pos 0) (pos most_charge) (B c)
      × Amounts (pos 0) (pos most_charge) (C c)
  unfolding refusal5
  money e =
      let charged = amounts (pos 0) (pos most_charge) in
      let (a, r) = both (amounts (pos 0) (pos most_variable) (F c)) _ (not-false _ e) in
      let (b, s) = both (charged (A c)) _ r in
      let (d, f) = both (charged (B c)) (charged (C c)) s in (
        amounts_true (pos 0) (pos most_variable) (F c) a,
        amounts_true (pos 0) (pos most_charge) (A c) b,
        amounts_true (pos 0) (pos most_charge) (B c) d,
        amounts_true (pos 0) (pos most_charge) (C c) f,
      )

  abbrev pub Climbs : Type 0
  Climbs = (1 ≤ PU c 1) × ((i : ℕ) → 1 ≤ i → i < UD c → PU c i < PU c (suc i)) × (PU c (UD c) ≡ low c)

  abbrev pub Descends : Type 0
  Descends = (PD c 1 ≡ low c) × ((i : ℕ) → 1 ≤ i → i < DD c → PD c (suc i) < PD c i) × (1 ≤ PD c (DD c))

  rise : climbs c ≡ true → Climbs
  unfolding climbs
  rise e =
      let (a, r) = both (leb 1 (PU c 1)) _ e in
      let (b, d) = both (every (λ i. ltb (PU c i) (PU c (suc i))) (UD c - 1)) (eqb (PU c (UD c)) (low c)) r in (
        leb-true 1 (PU c 1) a,
        λ i x y. ltb-true (PU c i) (PU c (suc i)) (every_true _ (UD c - 1) b i x (omega arith)),
        eqb-true (PU c (UD c)) (low c) d,
      )

  fall : descends c ≡ true → Descends
  unfolding descends
  fall e =
      let (a, r) = both (eqb (PD c 1) (low c)) _ e in
      let (b, d) = both (every (λ i. ltb (PD c (suc i)) (PD c i)) (DD c - 1)) (leb 1 (PD c (DD c))) r in (
        eqb-true (PD c 1) (low c) a,
        λ i x y. ltb-true (PD c (suc i)) (PD c i) (every_true _ (DD c - 1) b i x (omega arith)),
        leb-true 1 (PD c (DD c)) d,
      )

  pub trajectories : refusal6 c ≡ false → Climbs × Descends
  unfolding refusal6
  trajectories e =
      let (a, b) = both (climbs c) (descends c) (not-false _ e) in
      (rise a, fall b)

  -- the three openings
  free : opens_free c ≡ true → Opened c
  unfolding opens_free
  free e =
      let (u, r) = both (eqb (up_stage c) 0) _ e in
      let (d, s) = both (eqb (down_stage c) 0) _ r in
      opened_free (eqb-true (up_stage c) 0 u) (eqb-true (down_stage c) 0 d)
      (λ on. ⊎_elim
      (λ (z : eqb (p0 c) 0 ≡ true). absurd (omega (arith, eqb-true (p0 c) 0 z)))
      (λ (w : within (low c) (high c) (p0 c) && leb (UD c) (h c) ≡ true).
      let (a, b) = both (within (low c) (high c) (p0 c)) (leb (UD c) (h c)) w in
      let (x, y) = within_true (low c) (high c) (p0 c) a in
      (x, y, leb-true (UD c) (h c) b))
      (either _ _ s))

  up : opens_up c ≡ true → Opened c
  unfolding opens_up
  up e =
      let (d, r) = both (eqb (down_stage c) 0) _ e in
      let (w, s) = both (within 1 (UD c - 1) (up_stage c)) _ r in
      let (o, t) = both (eqb (p0 c) (PU c (up_stage c))) (eqb (h c) (up_stage c)) s in
      let (a, b) = within_true 1 (UD c - 1) (up_stage c) w in
      opened_up (eqb-true (down_stage c) 0 d) a (omega arith) (eqb-true (p0 c) (PU c (up_stage c)) o)
      (eqb-true (h c) (up_stage c) t)

  down : opens_down c ≡ true → Opened c
  unfolding opens_down
  down e =
      let (u, r) = both (eqb (up_stage c) 0) _ e in
      let (w, s) = both (within 2 (DD c) (down_stage c)) _ r in
      let (o, t) = both (eqb (p0 c) (PD c (down_stage c))) (leb (UD c + down_stage c - 1) (h c)) s in
      let (a, b) = within_true 2 (DD c) (down_stage c) w in
      opened_down (eqb-true (up_stage c) 0 u) a b (eqb-true (p0 c) (PD c (down_stage c)) o)
      (omega (arith, leb-true (UD c + down_stage c - 1) (h c) t))

  pub opening : refusal7 c ≡ false → Between 1 most_elapsed (h c) × Opened c
  unfolding refusal7
  opening e =
      let (a, r) = both (within 1 most_elapsed (h c)) _ (not-false _ e) in
      (within_true 1 most_elapsed (h c) a, ⊎_elim free (λ s. ⊎_elim up down (either _ _ s)) (either _ _ r))

  pub orders : refusal8 c ≡ false → (k : ℕ) → 1 ≤ k → k ≤ last c → order c k ≤ most_order
  unfolding refusal8
  orders e k a b = leb-true (order c k) most_order (every_true _ (last c) (not-false _ e) k a b)

  pub prices : refusal13 c ≡ false → (k : ℕ) → 1 ≤ k → k ≤ last c
      → Amounts (neg_ℤ (pos most_price)) (pos most_price) (price c k)
  unfolding refusal13
  prices e k a b =
      amounts_true (neg_ℤ (pos most_price)) (pos most_price) (price c k)
      (every_true _ (last c) (not-false _ e) k a b)

  pub limits_of_refusal_of : refusal_of c ≡ 0 → Limits c
  limits_of_refusal_of e =
      let p = passed_of_refusal_of e in
      let n = counts p.passes2 in
      let o = outputs p.passes3 in
      let r = rates p.passes4 in
      let m = money p.passes5 in
      let (u, d) = trajectories p.passes6 in
      let s = opening p.passes7 in
      record {
        rises_pos = n.0.0;
        rises_le = n.0.1;
        falls_pos = n.1.0;
        falls_le = n.1.1;
        hours_pos = n.2.0;
        hours_le = n.2.1;
        minimum_pos = o.0.0;
        minimum_le = o.0.1;
        capacity_le = o.1;
        rampup_pos = r.0.0;
        rampup_le = r.0.1;
        rampdown_pos = r.1.0;
        rampdown_le = r.1.1;
        minup_pos = r.2.0;
        minup_le = r.2.1;
        mindown_pos = r.3.0;
        mindown_le = r.3.1;
        variable_in = amount_of most_variable (F c) m.0;
        fixed_in = amount_of most_charge (A c) m.1;
        startcost_in = amount_of most_charge (B c) m.2;
        stopcost_in = amount_of most_charge (C c) m.3;
        rise_pos = u.0;
        rise_up = u.1;
        rise_top = u.2;
        fall_top = d.0;
        fall_down = d.1;
        fall_pos = d.2;
        elapsed_pos = s.0.0;
        elapsed_le = s.0.1;
        opened = s.1;
        order_le = orders p.passes8;
        price_le = λ k a b. price_of (price c k) (prices p.passes13 k a b);
      }
