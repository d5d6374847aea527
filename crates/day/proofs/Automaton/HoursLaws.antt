-- Starts, stops and the hours since them: what a mark says of two outputs, windows an hour further, and counts that go
-- on. Assumes nothing.
use mathlib.Core.Path.{◌≡◌, refl, ◌∙◌, ap}
use Prim.Native.Nat.{ℕ, zero, suc, ◌+◌, ◌≤◌, ◌<◌}
use native.Mathlib.Decide.{ℕ_discrete}
use native.Mathlib.Omega.{arith}
use Rattle.day.proofs.Automaton.Hours.{on, rise, back, later, Marks, again, since}

pub on_pos : (n : ℕ) → 1 ≤ n → on n ≡ 1
on_pos zero a = absurd (omega arith)
on_pos (suc n) a = refl

rise_pos : (q p : ℕ) → 1 ≤ q → rise q p ≡ 0
rise_pos zero p a = absurd (omega arith)
rise_pos (suc q) p a = refl

rise_zero : (q p : ℕ) → p ≡ 0 → rise q p ≡ 0
rise_zero zero zero a = refl
rise_zero zero (suc p) a = absurd (omega arith)
rise_zero (suc q) p a = refl

rise_one : (q p : ℕ) → q ≡ 0 → 1 ≤ p → rise q p ≡ 1
rise_one zero zero e a = absurd (omega arith)
rise_one zero (suc p) e a = refl
rise_one (suc q) p e a = absurd (omega arith)

rise_both : (q p : ℕ) → rise q p + on q ≡ on p + rise p q
rise_both zero zero = refl
rise_both zero (suc p) = refl
rise_both (suc q) zero = refl
rise_both (suc q) (suc p) = refl

module _ {T : ℕ} {p y z : ℕ → ℕ} (M : Marks T p y z) {k : ℕ} (l : k < T) where
  pub y_on : 1 ≤ p k → y (suc k) ≡ 0
  y_on a = M.y_is k l ∙ rise_pos (p k) (p (suc k)) a

  pub y_off : p (suc k) ≡ 0 → y (suc k) ≡ 0
  y_off a = M.y_is k l ∙ rise_zero (p k) (p (suc k)) a

  pub y_go : p k ≡ 0 → 1 ≤ p (suc k) → y (suc k) ≡ 1
  y_go a b = M.y_is k l ∙ rise_one (p k) (p (suc k)) a b

  pub z_on : 1 ≤ p (suc k) → z (suc k) ≡ 0
  z_on a = M.z_is k l ∙ rise_pos (p (suc k)) (p k) a

  pub z_off : p k ≡ 0 → z (suc k) ≡ 0
  z_off a = M.z_is k l ∙ rise_zero (p (suc k)) (p k) a

  pub z_go : 1 ≤ p k → p (suc k) ≡ 0 → z (suc k) ≡ 1
  z_go b a = M.z_is k l ∙ rise_one (p (suc k)) (p k) a b

  pub y_z : y (suc k) + on (p k) ≡ on (p (suc k)) + z (suc k)
  y_z = rw (M.y_is k l, M.z_is k l) (rise_both (p k) (p (suc k)))

-- windows an hour further
pub y_shift : (past y : ℕ → ℕ) (k j : ℕ) → 1 ≤ j → back past y (suc k) (suc j) ≡ back past y k j
y_shift past y k zero a = absurd (omega arith)
y_shift past y k (suc j) a = refl

pub back_le : (past y : ℕ → ℕ) → ((i : ℕ) → past i ≤ 1) → ((k : ℕ) → y k ≤ 1) → (k i : ℕ) → back past y k i ≤ 1
back_le past y a b zero i = a i
back_le past y a b (suc k) zero = omega arith
back_le past y a b (suc k) (suc zero) = b (suc k)
back_le past y a b (suc k) (suc (suc i)) = back_le past y a b k (suc i)

module _ (z : ℕ → ℕ) (k : ℕ) where
  pub z_shift : (j : ℕ) → 1 ≤ j → later z k (suc j) ≡ later z (suc k) j
  z_shift j a = ap z (omega arith)

  pub z_first : later z k 1 ≡ z (suc k)
  z_first = ap z (omega arith)

-- hours since the latest mark
module _ (f : ℕ → ℕ) (h : ℕ) where
  pub since_go : (k : ℕ) → f (suc k) ≡ 0 → since f h (suc k) ≡ suc (since f h k)
  unfolding since
  since_go k e = rw e refl

  pub since_new : (k : ℕ) → f (suc k) ≡ 1 → since f h (suc k) ≡ 1
  unfolding since
  since_new k e = rw e refl

  since_next : (k : ℕ) → since f h (suc k) ≤ suc (since f h k)
  unfolding since
  since_next k = go (f (suc k))
    where
      go : (n : ℕ) → again n (since f h k) ≤ suc (since f h k)
      go zero = omega arith
      go (suc n) = omega arith

  pub since_le : (j k : ℕ) → since f h (k + j) ≤ since f h k + j
  since_le zero k = rw (let e : k + 0 ≡ k = omega arith in e) (omega arith)
  since_le (suc j) k =
      rw (let e : k + suc j ≡ suc (k + j) = omega arith in e) (omega (arith, since_le j k, since_next (k + j)))

  pub since_pos : 1 ≤ h → (k : ℕ) → 1 ≤ since f h k
  unfolding since
  since_pos a zero = a
  since_pos a (suc k) = go (f (suc k))
    where
      go : (n : ℕ) → 1 ≤ again n (since f h k)
      go zero = omega arith
      go (suc n) = omega arith

  -- nor any past hour T
  pub since_past : (T : ℕ) → ((k : ℕ) → T < k → f k ≡ 0) → (n : ℕ) → since f h (T + n) ≡ since f h T + n
  since_past T q zero = rw (let e : T + 0 ≡ T = omega arith in e) (omega arith)
  since_past T q (suc n) =
      rw (let e : T + suc n ≡ suc (T + n) = omega arith in e)
      (omega (arith, since_go (T + n) (q (suc (T + n)) (omega arith)), since_past T q n))

  -- no mark in those hours, as far as n
  pub since_none : (past : ℕ → ℕ) (n : ℕ) → ((j : ℕ) → 1 ≤ j → j < n → j < h → past j ≡ 0) → ((k : ℕ) → f k ≤ 1)
      → (k j : ℕ) → 1 ≤ j → j < n → j < since f h k → back past f k j ≡ 0
  unfolding since
  since_none past n z b zero j a c l = z j a c l
  since_none past n z b (suc k) zero a c l = absurd (omega arith)
  since_none past n z b (suc k) (suc zero) a c l = go (ℕ_discrete (f (suc k)) 0)
    where
      go : Dec (f (suc k) ≡ 0) → f (suc k) ≡ 0
      go (yes e) = e
      go (no e) = absurd (omega (arith, b (suc k), since_new k (omega (arith, b (suc k)))))
  since_none past n z b (suc k) (suc (suc j)) a c l =
      since_none past n z b k (suc j) (omega arith) (omega arith) (omega (arith, since_next k))
