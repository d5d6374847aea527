-- The larger of two numbers is their least upper bound; over a range, two parts that meet make one. Assumes nothing.
use mathlib.Core.Path.{◌≡◌, refl, sym, ap, ◌∙◌}
use mathlib.Core.Bool.{Bool, true, false, cond}
use Prim.Native.Nat.{ℕ, zero, suc, ◌+◌, ◌-◌, ◌≤◌, ◌<◌, min}
use native.Mathlib.Nat.{add-zero, add-suc}
use native.Mathlib.Omega.{arith}
use borrow.Author.Tests.{leb-true, leb-false}
use lib.Dec.{leb}
use lib.IntN.{ℤ}
use lib.Signed.{lt_z, ◌≤ℤ◌, ≤ℤ_refl}
use Rattle.laws.specs.Range.{over, larger, largest}
use Rattle.laws.proofs.Signed.{linear, le_z_trans, le_z_antisym}

-- m is the least number that is at least a and at least b
pub record LeastAbove (a b m : ℤ) : Type 0 where
  pub left : a ≤ℤ m
  pub right : b ≤ℤ m
  pub least : {z : ℤ} → a ≤ℤ z → b ≤ℤ z → m ≤ℤ z

pub larger_least : (a b : ℤ) → LeastAbove a b (larger a b)
unfolding larger
larger_least a b = go (lt_z a b) refl
  where
    go : (t : Bool) → lt_z a b ≡ t → LeastAbove a b (cond t b a)
    go true e = record { left = omega linear; right = ≤ℤ_refl b; least = λ h k. k }
    go false e = record { left = ≤ℤ_refl a; right = omega linear; least = λ h k. h }

pub larger_assoc : (a b c : ℤ) → larger (larger a b) c ≡ larger a (larger b c)
larger_assoc a b c =
    let ab = larger_least a b in
    let bc = larger_least b c in
    let l = larger_least (larger a b) c in
    let r = larger_least a (larger b c) in
    le_z_antisym
    (l.least (ab.least r.left (le_z_trans bc.left r.right)) (le_z_trans bc.right r.right))
    (r.least (le_z_trans ab.left l.left) (bc.least (le_z_trans ab.right l.left) l.right))

pub larger_of_ge : {a b : ℤ} → b ≤ℤ a → larger a b ≡ a
larger_of_ge {a} {b} h = let l = larger_least a b in le_z_antisym (l.least (≤ℤ_refl a) h) l.left

pub larger_of_le : {a b : ℤ} → a ≤ℤ b → larger a b ≡ b
larger_of_le {a} {b} h = let l = larger_least a b in le_z_antisym (l.least h (≤ℤ_refl b)) l.right

-- it depends on the function within the range alone
pub over_same : {A : Type 0} (join : A → A → A) (unit : A) (f g : ℕ → A) (a m : ℕ)
    → ((j : ℕ) → a ≤ j → j < a + m → f j ≡ g j) → over join unit f a m ≡ over join unit g a m
unfolding over
over_same join unit f g a zero h = refl
over_same join unit f g a (suc m) h =
    let e = over_same join unit f g a m (λ j p q. h j p (omega arith)) in
    let k = h (a + m) (omega arith) (omega arith) in
    cc

-- no place
pub over_empty : {A : Type 0} (join : A → A → A) (unit : A) (f : ℕ → A) (a b : ℕ) → b ≤ a
    → over join unit f a (b - a) ≡ unit
unfolding over
over_empty join unit f a b h = let e : b - a ≡ 0 = omega arith in rw e

-- one place more at the end
pub over_next : {A : Type 0} (join : A → A → A) (unit : A) (f : ℕ → A) (a b : ℕ) → a ≤ b
    → join (over join unit f a (b - a)) (f b) ≡ over join unit f a (b + 1 - a)
unfolding over
over_next join unit f a b h =
    let e : b + 1 - a ≡ suc (b - a) = omega arith in
    let s : a + (b - a) ≡ b = omega arith in
    rw (e, s)

-- what holds of the unit, of every value and of joins holds of the whole
pub over_all : {A : Type 0} (P : A → Type 0) {join : A → A → A} {unit : A} → P unit
    → ((x y : A) → P x → P y → P (join x y)) → (f : ℕ → A) (a m : ℕ) → ((j : ℕ) → a ≤ j → j < a + m → P (f j))
    → P (over join unit f a m)
unfolding over
over_all P u c f a zero h = u
over_all P u c f a (suc m) h =
    c _ _ (over_all P u c f a m (λ j p q. h j p (omega arith))) (h (a + m) (omega arith) (omega arith))

-- a map that keeps joins keeps the whole
pub over_map : {A B : Type 0} (g : A → B) (meet : B → B → B) (P : A → Type 0) {join : A → A → A} {unit : A}
    → P unit → ((x y : A) → P x → P y → P (join x y))
    → ((x y : A) → P x → P y → g (join x y) ≡ meet (g x) (g y)) → (f : ℕ → A) (a m : ℕ)
    → ((j : ℕ) → a ≤ j → j < a + m → P (f j)) → g (over join unit f a m) ≡ over meet (g unit) (λ j. g (f j)) a m
unfolding over
over_map g meet P u c k f a zero h = refl
over_map {A} {B} g meet P u c k f a (suc m) h =
    let low : (j : ℕ) → a ≤ j → j < a + m → P (f j) = λ j p q. h j p (omega arith) in
    k _ _ (over_all P u c f a m low) (h (a + m) (omega arith) (omega arith))
    ∙ ap (λ (x : B). meet x (g (f (a + m)))) (over_map g meet P u c k f a m low)

module _ (floor : ℤ) (f : ℕ → ℤ) where
  over_floor : (a m : ℕ) → floor ≤ℤ over larger floor f a m
  unfolding over
  over_floor a zero = ≤ℤ_refl floor
  over_floor a (suc m) = le_z_trans (over_floor a m) (larger_least (over larger floor f a m) (f (a + m))).left

  over_append : (a m k : ℕ)
      → larger (over larger floor f a m) (over larger floor f (a + m) k) ≡ over larger floor f a (m + k)
  unfolding over
  over_append a m zero = rw add-zero (larger_of_ge (over_floor a m))
  over_append a m (suc k) =
      let e = over_append a m k in
      let s = larger_assoc (over larger floor f a m) (over larger floor f (a + m) k) (f (a + m + k)) in
      let p : a + m + k ≡ a + (m + k) = omega arith in
      rw add-suc (sym s ∙ cc)

  pub largest_floor : (a b : ℕ) → floor ≤ℤ largest floor f a b
  largest_floor a b = over_floor a (b - a)

  pub largest_empty : (a b : ℕ) → b ≤ a → largest floor f a b ≡ floor
  largest_empty = over_empty larger floor f

  -- two ranges that meet
  pub largest_join : (a b c : ℕ) → a ≤ b → b ≤ c
      → larger (largest floor f a b) (largest floor f b c) ≡ largest floor f a c
  largest_join a b c h k =
      let e : c - a ≡ (b - a) + (c - b) = omega arith in
      let s : a + (b - a) ≡ b = omega arith in
      rw (e, ← over_append) (cc)

  -- one place more at either end
  pub largest_next : (a b : ℕ) → a ≤ b → larger (largest floor f a b) (f b) ≡ largest floor f a (b + 1)
  largest_next = over_next larger floor f

  pub largest_back : (a b : ℕ) → a < b → larger (f a) (largest floor f (a + 1) b) ≡ largest floor f a b
  largest_back a b h =
      let s = largest floor f (a + 1) b in
      let low = le_z_trans (largest_floor (a + 1) b) (larger_least (f a) s).right in
      sym (larger_of_le low)
      ∙ sym (larger_assoc floor (f a) s)
      ∙ ap (λ (x : ℤ). larger x s)
      (ap (λ (x : ℤ). larger x (f a)) (sym (largest_empty a a (omega arith))) ∙ largest_next a a (omega arith))
      ∙ largest_join a (a + 1) b (omega arith) (omega arith)

  -- no place counts from a on
  pub largest_floor_only : (a b : ℕ) → ((j : ℕ) → a ≤ j → f j ≡ floor) → largest floor f a b ≡ floor
  unfolding over
  largest_floor_only a b h = go (b - a)
    where
      go : (m : ℕ) → over larger floor f a m ≡ floor
      go zero = refl
      go (suc m) = let e = go m in let k = h (a + m) (omega arith) in let u = larger_of_le (≤ℤ_refl floor) in cc

  -- nothing counts from n on, so a range may end there
  pub largest_clip : (n a b : ℕ) → ((j : ℕ) → n ≤ j → f j ≡ floor) → a < n
      → largest floor f a b ≡ largest floor f a (min b n)
  largest_clip n a b h k = go (leb b n) refl
    where
      go : (t : Bool) → leb b n ≡ t → largest floor f a b ≡ largest floor f a (min b n)
      go true t = let e : min b n ≡ b = omega (arith, leb-true b n t) in rw e
      go false t =
          let e : min b n ≡ n = omega (arith, leb-false b n t) in
          let j = largest_join a n b (omega arith) (omega (arith, leb-false b n t)) in
          rw e (sym j ∙ ap (λ (x : ℤ). larger (largest floor f a n) x) (largest_floor_only n b h) ∙ larger_of_ge
          (largest_floor a n))
