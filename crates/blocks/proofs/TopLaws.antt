-- A range of offers, from place to place: the most of it, one of it, and a bound on it. Assumes nothing.
use mathlib.Core.Path.{◌≡◌, ◌∙◌}
use mathlib.Core.Bool.{Bool, true, false, cond}
use mathlib.Core.List.{List}
use Prim.Native.Nat.{ℕ, ◌+◌, ◌-◌, ◌≤◌, ◌<◌}
use native.Mathlib.Omega.{arith}
use lib.IntN.{ℤ}
use lib.Signed.{◌≤ℤ◌, lt_z}
use Rattle.laws.specs.Range.{larger, largest}
use Rattle.laws.proofs.Signed.{le_z_trans, le_z_antisym}
use Rattle.laws.proofs.RangeLaws.{over_all, larger_least, largest_floor, largest_join, largest_next}
use Rattle.blocks.specs.Offers.{offered}
use Rattle.blocks.specs.Cuts.{Offers}

module _ (floor : ℤ) (f : ℕ → ℤ) where
  -- no less than each value
  pub largest_above : (a b j : ℕ) → a ≤ j → j < b → f j ≤ℤ largest floor f a b
  largest_above a b j h k =
      let one = (larger_least (largest floor f a j) (f j)).right in
      let two = (larger_least (largest floor f a (j + 1)) (largest floor f (j + 1) b)).left in
      rw (← largest_join floor f a (j + 1) b (omega arith) (omega arith))
      (le_z_trans (rw (largest_next floor f a j h) at one) two)

  -- no more than a bound of the floor and of all values
  pub largest_least : (a b : ℕ) (z : ℤ) → floor ≤ℤ z → ((j : ℕ) → a ≤ j → j < b → f j ≤ℤ z) → largest floor f a b ≤ℤ z
  largest_least a b z m h =
      over_all (λ x. x ≤ℤ z) m (λ x y u v. (larger_least x y).least u v) f a (b - a) (λ j u v. h j u (omega arith))

-- a value of low to before high is no less than v
pub record Matched (f : ℕ → ℤ) (low high : ℕ) (v : ℤ) : Type 0 where
  pub place : ℕ
  pub low_le : low ≤ place
  pub high_lt : place < high
  pub match : v ≤ℤ f place

-- where each value of a range is matched in a part of it, the part has the largest
pub largest_part : (floor : ℤ) (f : ℕ → ℤ) (left low high right : ℕ) → left ≤ low → high ≤ right
    → ((q : ℕ) → left ≤ q → q < right → Matched f low high (f q))
    → largest floor f low high ≡ largest floor f left right
largest_part floor f left low high right l h m =
    le_z_antisym
    (largest_least floor f low high (largest floor f left right) (largest_floor floor f left right)
    (λ j u v. largest_above floor f left right j (omega arith) (omega arith)))
    (largest_least floor f left right (largest floor f low high) (largest_floor floor f low high)
    (λ q u v. let t = m q u v in
    le_z_trans t.match (largest_above floor f low high t.place t.low_le t.high_lt)))

module _ {xs costs : List ℤ} {at a : ℕ} where
  pub offers_next : {q : ℕ} {v : ℤ} (w : ℤ) → a ≤ q → Offers xs costs at a q v → w ≡ larger v (offered xs costs at q)
      → Offers xs costs at a (q + 1) w
  unfolding larger
  offers_next {q} {v} w h o e = go (lt_z v (offered xs costs at q)) e
    where
      go : (t : Bool) → w ≡ cond t (offered xs costs at q) v → Offers xs costs at a (q + 1) w
      go true f = record { place = q; low = h; high = omega arith; is = f }
      go false f = record { place = o.place; low = o.low; high = omega (arith, o.high); is = f ∙ o.is }
