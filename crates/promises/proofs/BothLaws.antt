-- Two days back to back: each hour of both has the order, the price, the outputs and the marks of its own day, so they
-- keep the limits where each does, and their profits add up. Assumes nothing.
use mathlib.Core.Path.{◌≡◌, refl, sym, ap, ◌∙◌, subst}
use mathlib.Core.List.{List, ◌++◌}
use Prim.Native.Nat.{ℕ, zero, suc, ◌+◌, ◌-◌, ◌≤◌, ◌<◌}
use native.Mathlib.Decide.{dec_lt}
use native.Mathlib.Nat.{add-zero, add-suc}
use native.Mathlib.Omega.{arith}
use borrow.Author.Tests.{lt-ltb}
use lib.IntN.{◌+ℤ◌, +ℤ_assoc, +ℤ_idr, nat_abs}
use lib.ListN.{length, get_or, get_or-append}
use lib.Seq.{get_or-append-add}
use Rattle.cases.specs.declared.Case.{Case}
use Rattle.quantities.specs.declared.Mills.{Mills}
use Rattle.cases.specs.Limits.{most_hours, most_price, most_order}
use Rattle.cases.specs.Symbols.{hourly, priced, last, price, order}
use Rattle.day.specs.Marks.{p, v, y, z}
use Rattle.day.specs.Profit.{energy, charge, profit_at, profit_to, profit_of}
use Rattle.cases.specs.Layout.{listed, no_mills}
use Rattle.promises.specs.Next.{leaves, another_day, next_day, both_days}
use Rattle.cases.specs.Refusals.{refusal_of}
use Rattle.cases.specs.Published.{Opening, Limited, limit2, limit3, limit4, limit5, limit6, limit7, limit8}
use Rattle.cases.specs.Published.{limit13, FirstRefused, record_order, costs}
use Rattle.cases.proofs.RefusalsLaws.{none_first, record_numbers}
use Rattle.cases.proofs.LayoutLaws.{length_listed, get_d_listed}
use Rattle.cases.proofs.LimitsLaws.{Limits, Opened, opened_free, opened_up, opened_down}
use Rattle.cases.proofs.LimitedLaws.{limits}

-- ---- a list after another, by place
get_d_second : {X : Type 0} (xs ys : List X) (d : X) (n i : ℕ) → length xs ≡ n → get_or (xs ++ ys) (n + i) d ≡ get_or ys i d
get_d_second xs ys d n i e = ap (λ t. get_or (xs ++ ys) (t + i) d) (sym e) ∙ get_or-append-add xs ys i d

module _ {X : Type 0} (f : ℕ → X) (xs : List X) (d : X) (n i : ℕ) where
  listed_first : i < n → get_or (listed f n ++ xs) i d ≡ f i
  listed_first h =
      get_or-append (listed f n) xs d i (omega (arith, length_listed f n)) ∙ get_d_listed f d n i h

  listed_second : get_or (listed f n ++ xs) (n + i) d ≡ get_or xs i d
  listed_second = get_d_second (listed f n) xs d n i (length_listed f n)

-- what holds of hours 1 to a and of the b hours after them holds of hours 1 to a + b
parted : (P : ℕ → Type 0) (a b : ℕ) → ((k : ℕ) → 1 ≤ k → k ≤ a → P k) → ((k : ℕ) → 1 ≤ k → k ≤ b → P (a + k))
    → (k : ℕ) → 1 ≤ k → k ≤ a + b → P k
parted P a b first second k i j = go (dec_lt a k)
  where
    go : Dec (a < k) → P k
    go (yes h) =
        subst P (let e : a + (k - a) ≡ k = omega arith in e) (second (k - a) (omega arith) (omega arith))
    go (no h) = first k i (omega arith)

module _ (c : Case) (prices : List Mills) (orders : List ℕ) (n : ℕ) where
  -- ---- orders and prices: those of the first day up to T, and then those of the second
  pub order_first : (k : ℕ) → 1 ≤ k → k ≤ last c → order (both_days c prices orders n) k ≡ order c k
  unfolding hourly
  order_first zero h i = refl
  order_first (suc k) h i = listed_first (λ j. get_or c.orders j 0) orders 0 (last c) k i

  pub order_second : (k : ℕ) → 1 ≤ k → order (both_days c prices orders n) (last c + k) ≡ hourly orders k
  unfolding hourly
  order_second zero h = absurd (omega arith)
  order_second (suc k) h = rw add-suc (listed_second (λ j. get_or c.orders j 0) orders 0 (last c) k)

  pub price_first : (k : ℕ) → 1 ≤ k → k ≤ last c → price (both_days c prices orders n) k ≡ price c k
  unfolding priced
  price_first zero h i = refl
  price_first (suc k) h i =
      ap (λ m. m.0) (listed_first (λ j. get_or c.prices j no_mills) prices no_mills (last c) k i)

  pub price_second : (k : ℕ) → 1 ≤ k → price (both_days c prices orders n) (last c + k) ≡ priced prices k
  unfolding priced
  price_second zero h = absurd (omega arith)
  price_second (suc k) h =
      rw add-suc (ap (λ m. m.0) (listed_second (λ j. get_or c.prices j no_mills) prices no_mills (last c) k))

  -- ---- limits
  opened_both : Opened c → Opened (both_days c prices orders n)
  opened_both (opened_free u d f) = opened_free u d f
  opened_both (opened_up d a b e t) = opened_up d a b e t
  opened_both (opened_down u a b e t) = opened_down u a b e t

  pub limits_both : Limits c → Limits (another_day c prices orders n) → last c + n ≤ most_hours
      → Limits (both_days c prices orders n)
  limits_both lim other few =
      record {
        rises_pos = lim.rises_pos;
        rises_le = lim.rises_le;
        falls_pos = lim.falls_pos;
        falls_le = lim.falls_le;
        hours_pos = omega (arith, lim.hours_pos);
        hours_le = few;
        minimum_pos = lim.minimum_pos;
        minimum_le = lim.minimum_le;
        capacity_le = lim.capacity_le;
        rampup_pos = lim.rampup_pos;
        rampup_le = lim.rampup_le;
        rampdown_pos = lim.rampdown_pos;
        rampdown_le = lim.rampdown_le;
        minup_pos = lim.minup_pos;
        minup_le = lim.minup_le;
        mindown_pos = lim.mindown_pos;
        mindown_le = lim.mindown_le;
        variable_in = lim.variable_in;
        fixed_in = lim.fixed_in;
        startcost_in = lim.startcost_in;
        stopcost_in = lim.stopcost_in;
        rise_pos = lim.rise_pos;
        rise_up = lim.rise_up;
        rise_top = lim.rise_top;
        fall_top = lim.fall_top;
        fall_down = lim.fall_down;
        fall_pos = lim.fall_pos;
        elapsed_pos = lim.elapsed_pos;
        elapsed_le = lim.elapsed_le;
        opened = opened_both lim.opened;
        order_le = parted (λ k. order (both_days c prices orders n) k ≤ most_order) (last c) n
            (λ k a b. rw (order_first k a b) (lim.order_le k a b))
            (λ k a b. rw (order_second k a) (other.order_le k a b));
        price_le = parted (λ k. nat_abs (price (both_days c prices orders n) k) ≤ most_price) (last c) n
            (λ k a b. rw (price_first k a b) (lim.price_le k a b))
            (λ k a b. rw (price_second k a) (other.price_le k a b));
      }

  module _ (l : List ℕ) (o : Opening (next_day c l prices orders n)) where
    -- the limits but those of 7 do not look at the opening
    reopened : {k : ℕ} → Limited (another_day c prices orders n) k → Limited (next_day c l prices orders n) k
    reopened (limit2 m) = limit2 (record { rises = m.rises; falls = m.falls; hours = m.hours })
    reopened (limit3 m) = limit3 (record { minimum = m.minimum; capacity = m.capacity })
    reopened (limit4 m) = limit4
        (record { rampup = m.rampup; rampdown = m.rampdown; minup = m.minup; mindown = m.mindown })
    reopened (limit5 m) = limit5
        (record { variable = m.variable; fixed = m.fixed; startcost = m.startcost; stopcost = m.stopcost })
    reopened (limit6 m) = limit6
        (record {
          rise_from = m.rise_from;
          rise_to = m.rise_to;
          rising = m.rising;
          fall_from = m.fall_from;
          fall_to = m.fall_to;
          falling = m.falling;
        })
    reopened (limit7 m) = limit7 o
    reopened (limit8 m) = limit8 (record { orders = m.orders })
    reopened (limit13 m) = limit13 (record { prices = m.prices })

    none_refused : FirstRefused (Limited (another_day c prices orders n)) record_order 0
        → FirstRefused (Limited (next_day c l prices orders n)) record_order 0
    none_refused = none_first (λ m. reopened) record_numbers

  pub next_limits : refusal_of (another_day c prices orders n) ≡ 0 → (l : List ℕ)
      → Opening (next_day c l prices orders n) → refusal_of (next_day c l prices orders n) ≡ 0
  next_limits e l o =
      (limits (next_day c l prices orders n) 0).1 (none_refused l o ((limits (another_day c prices orders n) 0).0 e))

-- ---- profit
-- an hour inside a day, with the outputs at its ends of an hour inside another
module _ (c d : Case) (l m : List ℕ) (j k : ℕ) (inside : j < last c) (within : k < last d) (from : p c l j ≡ p d m k)
    (to : p c l (suc j) ≡ p d m (suc k)) where
  y_alike : y c l (suc j) ≡ y d m (suc k)
  unfolding y v
  y_alike = rw (lt-ltb j (last c) inside, lt-ltb k (last d) within, from, to)

  z_alike : z c l (suc j) ≡ z d m (suc k)
  unfolding z v
  z_alike = rw (lt-ltb j (last c) inside, lt-ltb k (last d) within, from, to)

  -- with its price, and the same costs, it earns the same
  profit_at_alike : costs c ≡ costs d → price c (suc j) ≡ price d (suc k) → profit_at c l (suc j) ≡ profit_at d m (suc k)
  unfolding profit_at energy charge v
  profit_at_alike same sold = cc (y_alike, z_alike)

module _ (c : Case) (l m : List ℕ) (prices : List Mills) (orders : List ℕ) (n : ℕ) (whole : length l ≡ last c) where
  abbrev both : Case
  both = both_days c prices orders n

  abbrev next : Case
  next = next_day c l prices orders n

  -- the outputs: those of the first list up to T, and then those of the second; p(T) is p(0) of the next day
  p_first : (k : ℕ) → k ≤ last c → p both (l ++ m) k ≡ p c l k
  unfolding p
  p_first zero h = refl
  p_first (suc k) h = get_or-append l m 0 k (omega arith)

  p_second : (k : ℕ) → p both (l ++ m) (last c + k) ≡ p next m k
  unfolding p leaves
  p_second zero = rw add-zero (p_first (last c) (omega arith))
  p_second (suc k) = rw add-suc (get_d_second l m 0 (last c) k whole)

  -- so each hour earns what it earns in its own day
  hour_first : (k : ℕ) → k < last c → profit_at both (l ++ m) (suc k) ≡ profit_at c l (suc k)
  hour_first k h =
      profit_at_alike both c (l ++ m) l k k (omega arith) h (p_first k (omega arith)) (p_first (suc k) h) refl
      (price_first c prices orders n (suc k) (omega arith) h)

  hour_second : (k : ℕ) → k < n → profit_at both (l ++ m) (suc (last c + k)) ≡ profit_at next m (suc k)
  hour_second k h =
      profit_at_alike both next (l ++ m) m (last c + k) k (omega arith) h (p_second k)
      (rw add-suc at (p_second (suc k))) refl (rw add-suc at (price_second c prices orders n (suc k) (omega arith)))

  profit_to_first : (k : ℕ) → k ≤ last c → profit_to both (l ++ m) k ≡ profit_to c l k
  unfolding profit_to
  profit_to_first zero h = refl
  profit_to_first (suc k) h = rw (profit_to_first k (omega arith), hour_first k h)

  profit_to_second : (k : ℕ) → k ≤ n → profit_to both (l ++ m) (last c + k) ≡ profit_to c l (last c) +ℤ profit_to next m k
  unfolding profit_to
  profit_to_second zero h = rw (add-zero, +ℤ_idr) (profit_to_first (last c) (omega arith))
  profit_to_second (suc k) h = rw (add-suc, profit_to_second k (omega arith), hour_second k h, +ℤ_assoc)

-- the profits add up
pub both_profits : (c : Case) (l m : List ℕ) (prices : List Mills) (orders : List ℕ) (n : ℕ) → length l ≡ c.hours
    → profit_of (both_days c prices orders n) (l ++ m) ≡ profit_of c l +ℤ profit_of (next_day c l prices orders n) m
unfolding profit_of
both_profits c l m prices orders n whole = profit_to_second c l m prices orders n whole n (omega arith)
