-- The trajectories between their ends: PU is from 1 up to below the minimum output, PD from below it down to 1.
-- Assumes nothing.
use mathlib.Core.Path.{◌≡◌, refl, ap, subst}
use mathlib.Core.Logic.{⊎_elim}
use Prim.Native.Nat.{ℕ, zero, suc, ◌+◌, ◌-◌, ◌≤◌, ◌<◌}
use native.Mathlib.Decide.{dec_lt}
use native.Mathlib.Nat.{eq-or-lt_of_le}
use native.Mathlib.Omega.{arith}
use Rattle.cases.specs.declared.Case.{Case}
use Rattle.cases.specs.Symbols.{low, UD, DD, PU, PD}
use Rattle.cases.proofs.LimitsLaws.{Limits}

module _ (U : Case) (lim : Limits U) where
  pu_lt_from : (n i : ℕ) → 1 ≤ i → i + suc n ≡ UD U → PU U i < low U
  pu_lt_from zero i a e =
      omega (arith, lim.rise_up i a (omega arith), ap (PU U) (let q : suc i ≡ UD U = omega arith in q), lim.rise_top)
  pu_lt_from (suc n) i a e =
      omega (arith, lim.rise_up i a (omega arith), pu_lt_from n (suc i) (omega arith) (omega arith))

  pub pu_lt : (i : ℕ) → 1 ≤ i → i < UD U → PU U i < low U
  pu_lt i a b = pu_lt_from (UD U - suc i) i a (omega arith)

  pub pu_pos : (i : ℕ) → 1 ≤ i → i ≤ UD U → 1 ≤ PU U i
  pu_pos zero a b = absurd (omega arith)
  pu_pos (suc zero) a b = lim.rise_pos
  pu_pos (suc (suc i)) a b = omega (arith, lim.rise_up (suc i) (omega arith) b)

  pub pu_le : (i : ℕ) → 1 ≤ i → i ≤ UD U → PU U i ≤ low U
  pu_le i a b = ⊎_elim
      (λ (e : i ≡ UD U). omega (arith, ap (PU U) e, lim.rise_top))
      (λ (l : i < UD U). omega (arith, pu_lt i a l))
      (eq-or-lt_of_le b)

  pub pd_lt : (i : ℕ) → 1 ≤ i → i < DD U → PD U (suc i) < low U
  pd_lt zero a b = absurd (omega arith)
  pd_lt (suc zero) a b = omega (arith, lim.fall_down 1 a b, lim.fall_top)
  pd_lt (suc (suc i)) a b =
      omega (arith, lim.fall_down (suc (suc i)) a b, pd_lt (suc i) (omega arith) (omega arith))

  pd_pos_from : (n i : ℕ) → 1 ≤ i → i + n ≡ DD U → 1 ≤ PD U i
  pd_pos_from zero i a e = omega (arith, lim.fall_pos, ap (PD U) (let q : i ≡ DD U = omega arith in q))
  pd_pos_from (suc n) i a e = omega (arith, lim.fall_down i a (omega arith))

  pub pd_pos : (i : ℕ) → 1 ≤ i → i ≤ DD U → 1 ≤ PD U i
  pd_pos i a b = pd_pos_from (DD U - i) i a (omega arith)

  pub pd_le : (i : ℕ) → 1 ≤ i → i ≤ DD U → PD U i ≤ low U
  pd_le zero a b = absurd (omega arith)
  pd_le (suc zero) a b = omega (arith, lim.fall_top)
  pd_le (suc (suc i)) a b = omega (arith, pd_lt (suc i) (omega arith) b)

  -- every output of PD is below those before it, so no two are the same
  pd_down : (n i : ℕ) → 1 ≤ i → i + suc n ≤ DD U → PD U (i + suc n) < PD U i
  pd_down zero i a b =
      omega (arith, lim.fall_down i a (omega arith), ap (PD U) (let q : i + 1 ≡ suc i = omega arith in q))
  pd_down (suc n) i a b =
      let next = ap (PD U) (let q : i + suc (suc n) ≡ suc (i + suc n) = omega arith in q) in
      omega (arith, pd_down n i a (omega arith), lim.fall_down (i + suc n) (omega arith) (omega arith))

  pub pd_one : (i j : ℕ) → 1 ≤ i → i ≤ DD U → 1 ≤ j → j ≤ DD U → PD U i ≡ PD U j → i ≡ j
  pd_one i j a b c d e = go (dec_lt i j) (dec_lt j i)
    where
      below : (x y : ℕ) → x < y → 1 ≤ x → y ≤ DD U → PD U y < PD U x
      below x y h p q =
          subst (λ n. PD U n < PD U x) (let r : x + suc (y - suc x) ≡ y = omega arith in r)
          (pd_down (y - suc x) x p (omega arith))

      go : Dec (i < j) → Dec (j < i) → i ≡ j
      go (yes h) q = absurd (omega (arith, below i j h a d))
      go (no h) (yes q) = absurd (omega (arith, below j i q c b))
      go (no h) (no q) = omega arith

  -- only the first output of PD is the minimum
  pub pd_first : (i : ℕ) → 1 ≤ i → i ≤ DD U → low U ≤ PD U i → i ≡ 1
  pd_first zero a b l = absurd (omega arith)
  pd_first (suc zero) a b l = refl
  pd_first (suc (suc i)) a b l = absurd (omega (arith, pd_lt (suc i) (omega arith) b))
