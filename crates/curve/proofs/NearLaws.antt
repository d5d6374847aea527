-- How far a rounded value lies from the exact one, in units: at most 2 ^ (k + 1020) for a value below 2 ^ k. Assumes
-- nothing.
use mathlib.Core.Path.{◌≡◌, refl, sym, ap, ◌∙◌, subst}
use mathlib.Core.Bool.{false}
use Prim.Native.Nat.{ℕ, ◌+◌, ◌-◌, ◌*◌, ◌/◌, ◌^◌, ◌≤◌, ◌<◌}
use native.Mathlib.Nat.{le_trans, le_of_eq, mul_comm, mul_assoc, mul-pos, mul-div_cancel, le_of_mul-le-mul_right}
use native.Mathlib.Nat.{add-mul}
use native.Mathlib.Omega.{arith}
use lib.Pow.{pow-add, pow_pos, pow_mono}
use lib.Ieee.{Float, binary64, size, round}
use lib.Ieee.Digits.{size-le}
use lib.Ieee.Order.{drop, kept}
use lib.Ieee.Scale.{grid, round_val, round_under}
use lib.Ieee.Positive.{num, den, value→cross}
use Rattle.curve.specs.Pattern.{value_digits, scale}
use Rattle.curve.specs.Promises.{Half}
use Rattle.curve.proofs.NearestLaws.{closest_half}
use Rattle.curve.proofs.RoundLaws.{Rounded, same_num, same_den, r_fine, fine_finite}

-- U is within w of e
pub record Near (U e w : ℕ) : Type 0 where
  pub over : U ≤ e + w
  pub under : e ≤ U + w

-- x is U units
pub record Units (x : Float) (U : ℕ) : Type 0 where
  pub size : num x * 2 ^ scale ≡ U * den x

spare : (z p k : ℕ) → z ≤ k + scale → p ≡ value_digits → z - p ≤ k + 1021
spare z p k h e = omega arith

cancel : (g e p d : ℕ) → 0 < d → 2 * (g * d) ≤ 2 * (e * d) + p * d → 2 * g ≤ 2 * e + p
cancel g e p d D h =
    let a : 2 * g * d ≡ 2 * (g * d) = mul_assoc 2 g d in
    let b : (2 * e + p) * d ≡ 2 * (e * d) + p * d =
    add-mul (2 * e) p d ∙ ap (λ (x : ℕ). x + p * d) (mul_assoc 2 e d) in
    le_of_mul-le-mul_right (le_trans (le_of_eq a) (le_trans h (le_of_eq (sym b)))) D

module _ (a d e k : ℕ) (D : 0 < d) (E : a * 2 ^ scale ≡ e * d) (l : e < 2 ^ (k + scale)) where
  dropped : drop value_digits (a * 2 ^ scale) d ≤ k + 1021
  dropped =
      let w : a * 2 ^ scale / d ≡ e = ap (λ (x : ℕ). x / d) E ∙ mul-div_cancel e D in
      spare (size (a * 2 ^ scale / d)) value_digits k
      (size-le (a * 2 ^ scale / d) (k + scale) (subst (λ (x : ℕ). x < 2 ^ (k + scale)) (sym w) l)) refl

  grid_near : Near (grid binary64 a d) e (2 ^ (k + 1020))
  grid_near =
      let j = drop value_digits (a * 2 ^ scale) d in
      let q = kept value_digits (a * 2 ^ scale) d in
      let h : Half q (a * 2 ^ scale) (d * 2 ^ j) = closest_half (a * 2 ^ scale) (d * 2 ^ j) (mul-pos D (pow_pos j)) in
      let g : q * (d * 2 ^ j) ≡ q * 2 ^ j * d = ap (λ (x : ℕ). q * x) (mul_comm d (2 ^ j))
      ∙ sym (mul_assoc q (2 ^ j) d) in
      let c : d * 2 ^ j ≡ 2 ^ j * d = mul_comm d (2 ^ j) in
      let m : 2 ^ j ≤ 2 ^ (k + 1021) = pow_mono dropped in
      let t : 2 ^ (k + 1021) ≡ 2 ^ (k + 1020) * 2 = ap (λ (x : ℕ). 2 ^ x) (plus1 k) ∙ pow-add 2 (k + 1020) 1 in
      let o : 2 * (q * 2 ^ j * d) ≤ 2 * (e * d) + 2 ^ j * d =
      subst (λ (x : ℕ). 2 * x ≤ 2 * (e * d) + 2 ^ j * d) g
      (subst (λ (x : ℕ). 2 * (q * (d * 2 ^ j)) ≤ 2 * x + 2 ^ j * d) E
      (subst (λ (x : ℕ). 2 * (q * (d * 2 ^ j)) ≤ 2 * (a * 2 ^ scale) + x) c h.over)) in
      let u : 2 * (e * d) ≤ 2 * (q * 2 ^ j * d) + 2 ^ j * d =
      subst (λ (x : ℕ). 2 * (e * d) ≤ 2 * x + 2 ^ j * d) g
      (subst (λ (x : ℕ). 2 * x ≤ 2 * (q * (d * 2 ^ j)) + 2 ^ j * d) E
      (subst (λ (x : ℕ). 2 * (a * 2 ^ scale) ≤ 2 * (q * (d * 2 ^ j)) + x) c h.under)) in
      finish (q * 2 ^ j) (2 ^ j) (2 ^ (k + 1021)) (2 ^ (k + 1020)) m t (cancel (q * 2 ^ j) e (2 ^ j) d D o)
      (cancel e (q * 2 ^ j) (2 ^ j) d D u)
    where
      plus1 : (k : ℕ) → k + 1021 ≡ k + 1020 + 1
      plus1 k = omega arith

      finish : (g p P w : ℕ) → p ≤ P → P ≡ w * 2 → 2 * g ≤ 2 * e + p → 2 * e ≤ 2 * g + p → Near g e w
      finish g p P w h t o u = record { over = omega arith; under = omega arith }

-- a rounded fraction that is e units exactly, below 2 ^ k, becomes a number of units near e
pub record Rounds (z : Float) (e k : ℕ) : Type 0 where
  pub value : ℕ
  pub units : Units z value
  pub near : Near value e (2 ^ (k + 1020))

pub rounded_near : {z : Float} {a d : ℕ} → Rounded z a d → 0 < d → (p : ℕ) → p ≤ 2 ^ value_digits → a ≤ p * d → (e k : ℕ)
    → a * 2 ^ scale ≡ e * d → e < 2 ^ (k + scale) → Rounds z e k
rounded_near {z} {a} {d} r D p h l e k E b =
    let w = round binary64 false a d in
    let v = value→cross w (grid binary64 a d) (2 ^ scale)
    (round_val binary64 a d (round_under binary64 a d (fine_finite w (r_fine a d p D h l)))) in
    record {
      value = grid binary64 a d;
      units = record {
        size = ap (λ (x : ℕ). x * 2 ^ scale) (same_num r D) ∙ v
            ∙ ap (λ (x : ℕ). grid binary64 a d * x) (sym (same_den r D));
      };
      near = grid_near a d e k D E b;
    }
