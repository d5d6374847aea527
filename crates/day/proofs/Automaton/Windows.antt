-- Windows: a function that is 1 at one place of 1, .., n, or at none, and 0 elsewhere there; what its sums are, and the
-- window a place further. Assumes nothing.
use mathlib.Core.Path.{◌≡◌, refl, ◌∙◌, ap}
use mathlib.Core.Logic.{◌≢◌, ◌⊎◌, inl, inr, ⊎_elim}
use Prim.Native.Nat.{ℕ, zero, suc, ◌*◌, ◌-◌, ◌≤◌, ◌<◌}
use native.Mathlib.Decide.{ℕ_discrete}
use native.Mathlib.Nat.{mul-zero, mul-one}
use native.Mathlib.Omega.{arith}
use Rattle.cases.specs.Symbols.{sum}
use Rattle.cases.proofs.SymbolsLaws.{sum_suc, sum_zeros, sum_one, term_le_sum}

-- the window 1, .., n of f: t is 0 where f is 0 all over it, and else the one place where f is 1
pub record Win (n : ℕ) (f : ℕ → ℕ) (t : ℕ) : Type 0 where
  pub fits : t ≤ n
  pub zeros : (j : ℕ) → 1 ≤ j → j ≤ n → j ≢ t → f j ≡ 0
  pub here : 1 ≤ t → f t ≡ 1

module _ {n : ℕ} {f : ℕ → ℕ} where
  pub win_sum0 : Win n f 0 → sum f n ≡ 0
  win_sum0 w = sum_zeros f n (λ i a b. w.zeros i a b (omega arith))

  pub win_sum1 : {t : ℕ} → Win n f t → 1 ≤ t → sum f n ≡ 1
  win_sum1 {t} w a = sum_one f n t a w.fits w.zeros ∙ w.here a

  -- weighted sums
  pub win_wsum0 : Win n f 0 → (c : ℕ → ℕ) → sum (λ i. c i * f i) n ≡ 0
  win_wsum0 w c = sum_zeros (λ i. c i * f i) n (λ i a b. rw (w.zeros i a b (omega arith)) (mul-zero (c i)))

  pub win_wsum1 : {t : ℕ} → Win n f t → 1 ≤ t → (c : ℕ → ℕ) → sum (λ i. c i * f i) n ≡ c t
  win_wsum1 {t} w a c =
      sum_one (λ i. c i * f i) n t a w.fits (λ i x y h. rw (w.zeros i x y h) (mul-zero (c i)))
      ∙ rw (w.here a) (mul-one (c t))

  -- where f is 1 is the place
  pub win_the : {t : ℕ} → Win n f t → (j : ℕ) → 1 ≤ j → j ≤ n → f j ≡ 1 → j ≡ t
  win_the {t} w j a b e = go (ℕ_discrete j t)
    where
      go : Dec (j ≡ t) → j ≡ t
      go (yes p) = p
      go (no p) = absurd (omega (arith, w.zeros j a b p))

-- a sum of at most 1 of numbers at most 1 has a window
pub sum_win : (n : ℕ) (f : ℕ → ℕ) → ((j : ℕ) → f j ≤ 1) → sum f n ≤ 1 → (t : ℕ) × Win n f t
sum_win zero f b s =
    (0, record { fits = omega arith; zeros = λ j a c e. absurd (omega arith); here = λ a. absurd (omega arith) })
sum_win (suc n) f b s = go (ℕ_discrete (f (suc n)) 0) (sum_win n f b (omega (arith, sum_suc f n)))
  where
    go : Dec (f (suc n) ≡ 0) → (t : ℕ) × Win n f t → (t : ℕ) × Win (suc n) f t
    go (yes e) (t, w) = (
      t,
      record {
        fits = omega (arith, w.fits);
        zeros = λ j a c h. at j a c h (ℕ_discrete j (suc n));
        here = w.here;
      },
    )
      where
        at : (j : ℕ) → 1 ≤ j → j ≤ suc n → j ≢ t → Dec (j ≡ suc n) → f j ≡ 0
        at j a c h (yes q) = ap f q ∙ e
        at j a c h (no q) = w.zeros j a (omega arith) h
    go (no e) (t, w) = (
      suc n,
      record {
        fits = omega arith;
        zeros = λ j a c h. omega (arith, b (suc n), sum_suc f n, term_le_sum f n j a (omega arith));
        here = λ a. omega (arith, b (suc n));
      },
    )

-- the window one step on: g is f moved one place up, with a new first place
module _ {n : ℕ} {f : ℕ → ℕ} {t : ℕ} (w : Win n f t) (g : ℕ → ℕ) (shift : (j : ℕ) → 1 ≤ j → g (suc j) ≡ f j) where
  win_push : (s : ℕ) → s ≤ n → (1 ≤ s → g s ≡ 1) → (1 ≢ s → g 1 ≡ 0)
      → ((j : ℕ) → 1 ≤ j → j < n → suc j ≢ s → j ≢ t) → Win n g s
  win_push s a one first rest = record { fits = a; zeros = at; here = one }
    where
      at : (j : ℕ) → 1 ≤ j → j ≤ n → j ≢ s → g j ≡ 0
      at zero x y h = absurd (omega arith)
      at (suc zero) x y h = first h
      at (suc (suc j)) x y h =
          shift (suc j) (omega arith)
          ∙ w.zeros (suc j) (omega arith) (omega arith) (rest (suc j) (omega arith) (omega arith) h)

  -- nothing new, and what there was is gone, or was not there
  pub win_skip : g 1 ≡ 0 → (t ≡ 0) ⊎ (t ≡ n) → Win n g 0
  win_skip e d =
      win_push 0 (omega arith) (λ h. absurd (omega arith)) (λ h. e)
      (λ j a b h. ⊎_elim (λ p. omega arith) (λ p. omega arith) d)

  pub win_new : g 1 ≡ 1 → 1 ≤ n → (t ≡ 0) ⊎ (t ≡ n) → Win n g 1
  win_new e l d =
      win_push 1 l (λ h. e) (λ h. absurd (h refl)) (λ j a b h. ⊎_elim (λ p. omega arith) (λ p. omega arith) d)

  pub win_move : g 1 ≡ 0 → 1 ≤ t → t < n → Win n g (suc t)
  win_move e a b = win_push (suc t) b (λ h. shift t a ∙ w.here a) (λ h. e) (λ j x y h. omega arith)

  -- a place in any case, if what there was has gone by when something new comes
  pub win_next : g 1 ≤ 1 → 1 ≤ n → (g 1 ≡ 1 → t ≡ 0) → (s : ℕ) × Win n g s
  win_next b l c = go (ℕ_discrete (g 1) 0) (ℕ_discrete t 0) (ℕ_discrete t n)
    where
      go : Dec (g 1 ≡ 0) → Dec (t ≡ 0) → Dec (t ≡ n) → (s : ℕ) × Win n g s
      go (no e) _ _ = let e1 : g 1 ≡ 1 = omega arith in (1, win_new e1 l (inl (c e1)))
      go (yes e) (yes f0) _ = (0, win_skip e (inl f0))
      go (yes e) (no f0) (yes g0) = (0, win_skip e (inr g0))
      go (yes e) (no f0) (no g0) = (suc t, win_move e (omega arith) (omega (arith, w.fits)))

module _ {n : ℕ} {f : ℕ → ℕ} {t : ℕ} (w : Win n f t) where
  -- the window read backwards
  pub win_rev0 : (r : ℕ → ℕ) → ((i : ℕ) → 1 ≤ i → i ≤ n → r i ≡ f (suc n - i)) → t ≡ 0 → Win n r 0
  win_rev0 r e z =
      record {
        fits = omega arith;
        zeros = λ j a b h. e j a b ∙ w.zeros (suc n - j) (omega arith) (omega arith) (omega arith);
        here = λ a. absurd (omega arith);
      }

  pub win_rev1 : (r : ℕ → ℕ) → ((i : ℕ) → 1 ≤ i → i ≤ n → r i ≡ f (suc n - i)) → 1 ≤ t → Win n r (suc n - t)
  win_rev1 r e z =
      record {
        fits = omega arith;
        zeros = λ j a b h.
            e j a b
            ∙ w.zeros (suc n - j) (omega arith) (omega arith) (let k : suc n - j ≢ t = λ q. h (omega arith) in k);
        here = λ a.
            let same : suc n - (suc n - t) ≡ t = omega (arith, w.fits) in
            e (suc n - t) a (omega arith) ∙ ap f same ∙ w.here z;
      }

  -- a shorter one, with the place inside and outside
  pub win_less : (m : ℕ) → m ≤ n → t ≤ m → Win m f t
  win_less m a b = record { fits = b; zeros = λ j x y h. w.zeros j x (omega arith) h; here = w.here }

  pub win_cut : (m : ℕ) → m ≤ n → m < t → Win m f 0
  win_cut m a b =
      record {
        fits = omega arith;
        zeros = λ j x y h. w.zeros j x (omega arith) (omega arith);
        here = λ h. absurd (omega arith);
      }
