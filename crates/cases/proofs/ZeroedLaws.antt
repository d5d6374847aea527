-- Entries past a count are never looked at: a case and the case with those entries zero have the same refusals.
-- Assumes nothing.
use mathlib.Core.Path.{◌≡◌, refl, ap}
use mathlib.Core.Bool.{Bool, true, false, ◌&&◌, not}
use mathlib.Core.List.{List}
use Prim.Native.Nat.{ℕ, zero, suc, ◌+◌, ◌-◌, ◌≤◌}
use native.Mathlib.Omega.{arith}
use lib.Dec.{leb, ltb, eqb}
use lib.IntN.{pos, neg_ℤ}
use lib.ListN.{get_or}
use Rattle.cases.specs.declared.Case.{Case}
use Rattle.cases.specs.Limits.{most_stages, most_hours, most_price, most_order}
use Rattle.cases.specs.Symbols.{every, stage, hourly, priced, high, UD, DD, PU, PD, last, price}
use Rattle.cases.specs.Symbols.{order, p0, h, up_stage, down_stage}
use Rattle.cases.specs.Layout.{no_output, no_mills, zeroed}
use Rattle.cases.specs.Refusals.{within, refusal2, refusal3, refusal4, refusal5, climbs, descends, refusal6}
use Rattle.cases.specs.Refusals.{opens_free, opens_up, opens_down, refusal7, refusal8, refusal13, amounts, first_of}
use Rattle.cases.specs.Refusals.{tests}
use Rattle.cases.proofs.LimitsLaws.{counts, within_true}
use Rattle.cases.specs.Published.{Counts}
use Rattle.cases.proofs.LayoutLaws.{get_d_padded_in}

-- a test of all depends on the function within the range alone
pub every_same : (f g : ℕ → Bool) (n : ℕ) → ((i : ℕ) → 1 ≤ i → i ≤ n → f i ≡ g i) → every f n ≡ every g n
unfolding every
every_same f g zero h = refl
every_same f g (suc n) h =
    let e = every_same f g n (λ i a b. h i a (omega arith)) in
    let k = h (suc n) (omega arith) (omega arith) in
    cc

module _ (c : Case) where
  pub pu_zeroed : UD c ≤ most_stages → (i : ℕ) → i ≤ UD c → PU (zeroed c) i ≡ PU c i
  unfolding stage zeroed
  pu_zeroed n zero h = refl
  pu_zeroed n (suc i) h = ap (λ o. o.0)
      (get_d_padded_in no_output (λ i. get_or c.rise i no_output) (UD c) most_stages no_output i h (omega arith))

  pub pd_zeroed : DD c ≤ most_stages → (i : ℕ) → i ≤ DD c → PD (zeroed c) i ≡ PD c i
  unfolding stage zeroed
  pd_zeroed n zero h = refl
  pd_zeroed n (suc i) h = ap (λ o. o.0)
      (get_d_padded_in no_output (λ i. get_or c.fall i no_output) (DD c) most_stages no_output i h (omega arith))

  pub price_zeroed : last c ≤ most_hours → (k : ℕ) → k ≤ last c → price (zeroed c) k ≡ price c k
  unfolding priced zeroed
  price_zeroed n zero h = refl
  price_zeroed n (suc k) h = ap (λ m. m.0)
      (get_d_padded_in no_mills (λ i. get_or c.prices i no_mills) (last c) most_hours no_mills k h (omega arith))

  pub order_zeroed : last c ≤ most_hours → (k : ℕ) → k ≤ last c → order (zeroed c) k ≡ order c k
  unfolding hourly zeroed
  order_zeroed n zero h = refl
  order_zeroed n (suc k) h = get_d_padded_in 0 (λ i. get_or c.orders i 0) (last c) most_hours 0 k h (omega arith)

-- the counts of a case have room in its arrays
pub counted : (c : Case) → refusal2 c ≡ false → Counts c
counted c e = let (r, f, t) = counts c e in record { rises = r; falls = f; hours = t }

module _ (c : Case) (room : Counts c) where
  -- ---- refusals
  climbs_zeroed : climbs (zeroed c) ≡ climbs c
  unfolding climbs zeroed
  climbs_zeroed =
      rw (
        pu_zeroed c room.rises.1 1 room.rises.0,
        pu_zeroed c room.rises.1 (UD c) (omega arith),
        every_same (λ i. ltb (PU (zeroed c) i) (PU (zeroed c) (suc i))) (λ i. ltb (PU c i) (PU c (suc i))) (UD c - 1)
            (λ i a b. rw (
              pu_zeroed c room.rises.1 i (omega arith),
              pu_zeroed c room.rises.1 (suc i)
                  (omega arith),
            )),
      )

  descends_zeroed : descends (zeroed c) ≡ descends c
  unfolding descends zeroed
  descends_zeroed =
      rw (
        pd_zeroed c room.falls.1 1 room.falls.0,
        pd_zeroed c room.falls.1 (DD c) (omega arith),
        every_same (λ i. ltb (PD (zeroed c) (suc i)) (PD (zeroed c) i)) (λ i. ltb (PD c (suc i)) (PD c i)) (DD c - 1)
            (λ i a b. rw (
              pd_zeroed c room.falls.1 i (omega arith),
              pd_zeroed c room.falls.1 (suc i)
                  (omega arith),
            )),
      )

  opens_up_zeroed : opens_up (zeroed c) ≡ opens_up c
  unfolding opens_up zeroed
  opens_up_zeroed = ap (◌&&◌ (eqb (down_stage c) 0)) (go (within 1 (UD c - 1) (up_stage c)) refl)
    where
      go : (t : Bool) → within 1 (UD c - 1) (up_stage c) ≡ t
          → (t && (eqb (p0 c) (PU (zeroed c) (up_stage c)) && eqb (h c) (up_stage c)))
          ≡ (t && (eqb (p0 c) (PU c (up_stage c)) && eqb (h c) (up_stage c)))
      go true e =
          let (low, high) = within_true 1 (UD c - 1) (up_stage c) e in
          rw (pu_zeroed c room.rises.1 (up_stage c) (omega arith))
      go false e = refl

  opens_down_zeroed : opens_down (zeroed c) ≡ opens_down c
  unfolding opens_down zeroed
  opens_down_zeroed = ap (◌&&◌ (eqb (up_stage c) 0)) (go (within 2 (DD c) (down_stage c)) refl)
    where
      go : (t : Bool) → within 2 (DD c) (down_stage c) ≡ t
          → (t && (eqb (p0 c) (PD (zeroed c) (down_stage c)) && leb (UD c + down_stage c - 1) (h c)))
          ≡ (t && (eqb (p0 c) (PD c (down_stage c)) && leb (UD c + down_stage c - 1) (h c)))
      go true e =
          let (low, high) = within_true 2 (DD c) (down_stage c) e in
          rw (pd_zeroed c room.falls.1 (down_stage c) high)
      go false e = refl

  refusal7_zeroed : refusal7 (zeroed c) ≡ refusal7 c
  unfolding refusal7 opens_free zeroed
  refusal7_zeroed = rw (opens_up_zeroed, opens_down_zeroed)

  refusal8_zeroed : refusal8 (zeroed c) ≡ refusal8 c
  unfolding refusal8 zeroed
  refusal8_zeroed =
      ap not
      (every_same _ _ (last c) (λ k a b. ap (λ x. leb x most_order) (order_zeroed c room.hours.1 k b)))

  refusal13_zeroed : refusal13 (zeroed c) ≡ refusal13 c
  unfolding refusal13 zeroed
  refusal13_zeroed =
      ap not
      (every_same _ _ (last c) (λ k a b. ap (amounts (neg_ℤ (pos most_price)) (pos most_price))
      (price_zeroed c room.hours.1 k b)))

-- the tests of a record pass over the entries past its counts, whatever the counts
pub tests_zeroed : (c : Case) (more : List (ℕ × Bool)) → first_of (tests (zeroed c) more) ≡ first_of (tests c more)
unfolding first_of tests refusal2 refusal3 refusal4 refusal5 refusal6 zeroed
tests_zeroed c more = go (refusal2 c) refl
  where
    go : (t : Bool) → refusal2 c ≡ t → first_of (tests (zeroed c) more) ≡ first_of (tests c more)
    go true e = rw e
    go false e =
        let room = counted c e in
        rw (
          climbs_zeroed c room,
          descends_zeroed c room,
          refusal7_zeroed c room,
          refusal8_zeroed c room,
          refusal13_zeroed c room,
        )
