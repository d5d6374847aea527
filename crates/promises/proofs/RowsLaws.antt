-- Sums of amounts over the energies of hours, by their terms: of no amount below 0, of one amount, of one hour alone,
-- of differences, and over two rows of energies. Assumes nothing.
use mathlib.Core.Path.{◌≡◌, refl, ap, ◌∙◌}
use mathlib.Core.Logic.{◌≢◌}
use Prim.Native.Nat.{ℕ, zero, suc, ◌+◌, ◌*◌, ◌≤◌}
use native.Mathlib.Decide.{ℕ_discrete}
use native.Mathlib.Nat.{mul-le-mul_left, mul-le-mul_right, le_of_mul-le-mul_left, zero-mul}
use native.Mathlib.Omega.{arith}
use lib.IntN.{ℤ, pos, negsuc, nat_abs, ◌+ℤ◌, ◌-ℤ◌, ◌*ℤ◌, +ℤ_idl, +ℤ_idr}
use lib.Signed.{◌≤ℤ◌, ◌<ℤ◌}
use Rattle.laws.proofs.Signed.{up, down, linear, le_parts, parts_add, parts_sub, parts_mul, parts_pos, multiple__}
use Rattle.laws.proofs.Magnitude.{abs_parts}
use Rattle.cases.specs.Symbols.{sum}
use Rattle.day.specs.Words.{sum_z}

-- ---- one hour
term_pos : (x : ℤ) (e : ℕ) → pos 0 ≤ℤ x → pos 0 ≤ℤ (x *ℤ pos e)
term_pos x e h =
    let signs : down x ≤ up x = omega (arith, le_parts (pos 0) x h, parts_pos 0) in
    omega (linear, parts_mul x e, parts_pos 0, mul-le-mul_right e signs)

-- two energies up to w make no more difference than w times the amount, up or down
term_apart : (x : ℤ) (w e h : ℕ) → e ≤ w → h ≤ w → (x *ℤ pos e) ≤ℤ (x *ℤ pos h +ℤ pos (w * nat_abs x))
term_apart x w e h a b =
    omega (
      linear,
      parts_mul x e,
      parts_mul x h,
      parts_add (x *ℤ pos h) (pos (w * nat_abs x)),
      parts_pos (w * nat_abs x),
      ap (λ n. w * n) (abs_parts x),
      mul-le-mul_left (up x) a,
      mul-le-mul_left (down x) b,
    )

-- an amount above 0 comes to no more over one energy than over another: that energy is no more
pub term_cancel : (x : ℤ) (e h : ℕ) → pos 0 <ℤ x → (x *ℤ pos e) ≤ℤ (x *ℤ pos h) → e ≤ h
term_cancel (pos n) e h some le =
    le_of_mul-le-mul_left {m = e} {n = h} {k = n} (omega (linear, parts_pos (n * e), parts_pos (n * h)))
    (omega (linear, parts_pos n, parts_pos 0))
term_cancel (negsuc n) e h some le = absurd some.lt

-- ---- hours 1 to n
-- a sum depends on its terms alone
pub sum_z_same : (x y : ℕ → ℤ) (n : ℕ) → ((k : ℕ) → 1 ≤ k → k ≤ n → x k ≡ y k) → sum_z x n ≡ sum_z y n
unfolding sum_z
sum_z_same x y zero h = refl
sum_z_same x y (suc n) h =
    rw (sum_z_same x y n (λ i a b. h i a (omega arith)), h (suc n) (omega arith) (omega arith)) refl

-- what amounts come to over energies
abbrev pub over : (ℕ → ℤ) → (ℕ → ℕ) → ℕ → ℤ
over x e n = sum_z (λ k. x k *ℤ pos (e k)) n

module _ (e : ℕ → ℕ) where
  pub over_pos : (x : ℕ → ℤ) (n : ℕ) → ((k : ℕ) → 1 ≤ k → k ≤ n → pos 0 ≤ℤ x k) → pos 0 ≤ℤ over x e n
  unfolding sum_z
  over_pos x zero h = omega linear
  over_pos x (suc n) h =
      let k = suc n in
      omega (
        linear,
        over_pos x n (λ i a b. h i a (omega arith)),
        term_pos (x k) (e k) (h k (omega arith) (omega arith)),
        parts_add (over x e n) (x k *ℤ pos (e k)),
        parts_pos 0,
      )

  pub over_constant : (x : ℕ → ℤ) (d n : ℕ) → ((k : ℕ) → 1 ≤ k → k ≤ n → x k ≡ pos d) → over x e n ≡ pos (d * sum e n)
  unfolding sum_z sum
  over_constant x d zero h = ap pos (omega arith)
  over_constant x d (suc n) h =
      let k = suc n in
      rw (over_constant x d n (λ i a b. h i a (omega arith)), h k (omega arith) (omega arith)) (ap pos (omega arith))

  -- none but that of hour j
  over_none : (x : ℕ → ℤ) (n : ℕ) → ((k : ℕ) → 1 ≤ k → k ≤ n → x k ≡ pos 0) → over x e n ≡ pos 0
  over_none x n h = over_constant x 0 n h ∙ ap pos (omega arith)

  pub over_one : (x : ℕ → ℤ) (n j : ℕ) → 1 ≤ j → j ≤ n → ((k : ℕ) → 1 ≤ k → k ≤ n → k ≢ j → x k ≡ pos 0)
      → over x e n ≡ x j *ℤ pos (e j)
  unfolding sum_z
  over_one x zero j a b h = absurd (omega arith)
  over_one x (suc n) j a b h = go (λ b' h'. over_one x n j a b' h') (ℕ_discrete (suc n) j)
    where
      go : (j ≤ n → ((k : ℕ) → 1 ≤ k → k ≤ n → k ≢ j → x k ≡ pos 0) → over x e n ≡ x j *ℤ pos (e j)) → Dec (suc n ≡ j)
          → over x e n +ℤ x (suc n) *ℤ pos (e (suc n)) ≡ x j *ℤ pos (e j)
      go ih (yes q) = rw (over_none x n (λ k c d. h k c (omega arith) (omega arith)), q) (+ℤ_idl (x j *ℤ pos (e j)))
      go ih (no q) =
          rw (ih (omega arith) (λ k c d. h k c (omega arith)), h (suc n) (omega arith) (omega arith) q)
          (ap (λ n. x j *ℤ pos (e j) +ℤ pos n) (zero-mul (e (suc n))) ∙ +ℤ_idr (x j *ℤ pos (e j)))

  -- differences
  pub over_differ : (x y : ℕ → ℤ) (n : ℕ) → over y e n ≡ over x e n +ℤ over (λ k. y k -ℤ x k) e n
  unfolding sum_z
  over_differ x y zero = refl
  over_differ x y (suc n) =
      let k = suc n in
      let (a, b) : ℤ × ℤ = (x k *ℤ pos (e k), y k *ℤ pos (e k)) in
      rw (over_differ x y n, multiple__ (y k) (x k) (e k)) (
      omega (
        linear,
        parts_sub b a,
        parts_add (over x e n) (over (λ i. y i -ℤ x i) e n),
        parts_add (over x e n +ℤ over (λ i. y i -ℤ x i) e n) b,
        parts_add (over x e n) a,
        parts_add (over (λ i. y i -ℤ x i) e n) (b -ℤ a),
        parts_add (over x e n +ℤ a) (over (λ i. y i -ℤ x i) e n +ℤ (b -ℤ a)),
      )
      )

-- two rows of energies up to w
pub over_apart : (x : ℕ → ℤ) (w : ℕ) (e h : ℕ → ℕ) (n : ℕ) → ((k : ℕ) → 1 ≤ k → k ≤ n → (e k ≤ w) × (h k ≤ w))
    → over x e n ≤ℤ (over x h n +ℤ pos (w * sum (λ k. nat_abs (x k)) n))
unfolding sum_z sum
over_apart x w e h zero r = omega (linear, parts_add (pos 0) (pos (w * 0)), parts_pos 0, parts_pos (w * 0))
over_apart x w e h (suc n) r =
    let k = suc n in
    let within = r k (omega arith) (omega arith) in
    let rest = sum (λ i. nat_abs (x i)) n in
    omega (
      linear,
      over_apart x w e h n (λ i a b. r i a (omega arith)),
      term_apart (x k) w (e k) (h k) within.0 within.1,
      parts_add (over x e n) (x k *ℤ pos (e k)),
      parts_add (over x h n) (x k *ℤ pos (h k)),
      parts_add (over x h n) (pos (w * rest)),
      parts_add (x k *ℤ pos (h k)) (pos (w * nat_abs (x k))),
      parts_add (over x h n +ℤ x k *ℤ pos (h k)) (pos (w * (rest + nat_abs (x k)))),
      parts_pos (w * rest),
      parts_pos (w * nat_abs (x k)),
      parts_pos (w * (rest + nat_abs (x k))),
    )
