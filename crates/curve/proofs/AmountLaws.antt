-- Sums and products of amounts. An amount is a binary64 value that is finite, not negative up to a zero's sign, and at
-- most a whole number B. A sum and a product of amounts is an amount, grows with each operand, and is exact at whole
-- numbers, all as long as the bounds stay within 2 ^ 53. Assumes nothing.
use mathlib.Core.Path.{◌≡◌, sym, ap, ◌∙◌}
use Prim.Native.Nat.{ℕ, ◌+◌, ◌*◌, ◌^◌, ◌≤◌, ◌<◌}
use native.Mathlib.Nat.{le_trans, le_of_eq, mul_comm, mul_assoc, mul_left_comm, mul-pos}
use native.Mathlib.Nat.{mul-le-mul_right, mul-le-mul, mul-mul-mul_comm, add-mul}
use native.Mathlib.Omega.{arith}
use lib.Dec.{T}
use lib.Ieee.{Float, binary64, add, mul}
use lib.Ieee.Positive.{num, den, den_pos}
use Rattle.curve.specs.Pattern.{value_digits}
use Rattle.curve.proofs.PatternLaws.{plain}
use Rattle.curve.proofs.RoundLaws.{Below, rounded_plain, rounded_most, rounded_whole, rounded_below}
use Rattle.curve.proofs.SumLaws.{mul_rounded, add_rounded}

-- x is an amount of B at most
pub record Amount (x : Float) (B : ℕ) : Type 0 where
  pub nonneg : T (plain x)
  pub most : num x ≤ B * den x

both_pos : (x y : Float) → 0 < den x * den y
both_pos x y = mul-pos (den_pos x) (den_pos y)

pub product_most : (n d m e B C : ℕ) → n ≤ B * d → m ≤ C * e → n * m ≤ B * C * (d * e)
product_most n d m e B C h k = le_trans (mul-le-mul h k) (le_of_eq (mul-mul-mul_comm B d C e))

pub sum_most : (n d m e B C : ℕ) → n ≤ B * d → m ≤ C * e → n * e + m * d ≤ (B + C) * (d * e)
sum_most n d m e B C h k =
    let a : n * e ≤ B * d * e = mul-le-mul_right e h in
    let b : m * d ≤ C * e * d = mul-le-mul_right d k in
    let f : B * d * e ≡ B * (d * e) = mul_assoc B d e in
    let g : C * e * d ≡ C * (d * e) = mul_assoc C e d ∙ ap (λ (x : ℕ). C * x) (mul_comm e d) in
    let t : (B + C) * (d * e) ≡ B * (d * e) + C * (d * e) = add-mul B C (d * e) in
    omega arith

module _ {x y : Float} {B C : ℕ} (p : Amount x B) (q : Amount y C) where
  pub mul_amount : B * C ≤ 2 ^ value_digits → Amount (mul binary64 x y) (B * C)
  mul_amount h =
      let r = mul_rounded x y p.nonneg q.nonneg in
      let m = product_most (num x) (den x) (num y) (den y) B C p.most q.most in
      record { nonneg = rounded_plain r (both_pos x y) (B * C) h m; most = rounded_most r (both_pos x y) (B * C) h m }

  pub add_amount : B + C ≤ 2 ^ value_digits → Amount (add binary64 x y) (B + C)
  add_amount h =
      let r = add_rounded x y p.nonneg q.nonneg in
      let m = sum_most (num x) (den x) (num y) (den y) B C p.most q.most in
      record { nonneg = rounded_plain r (both_pos x y) (B + C) h m; most = rounded_most r (both_pos x y) (B + C) h m }

-- ---- order

product_below : (n d n' d' m e m' e' : ℕ) → n * d' ≤ n' * d → m * e' ≤ m' * e → n * m * (d' * e') ≤ n' * m' * (d * e)
product_below n d n' d' m e m' e' h k =
    le_trans (le_of_eq (mul-mul-mul_comm n m d' e'))
    (le_trans (mul-le-mul h k) (le_of_eq (mul-mul-mul_comm n' d m' e)))

sum_below : (n d n' d' m e m' e' : ℕ) → n * d' ≤ n' * d → m * e' ≤ m' * e
    → (n * e + m * d) * (d' * e') ≤ (n' * e' + m' * d') * (d * e)
sum_below n d n' d' m e m' e' h k =
    let a : n * e * (d' * e') ≤ n' * e' * (d * e) =
    le_trans (le_of_eq (simp (mul_assoc, mul_left_comm)))
    (le_trans (mul-le-mul_right (e * e') h) (le_of_eq (simp (mul_assoc, mul_comm, mul_left_comm)))) in
    let b : m * d * (d' * e') ≤ m' * d' * (d * e) =
    le_trans (le_of_eq (simp (mul_assoc, mul_comm, mul_left_comm)))
    (le_trans (mul-le-mul_right (d * d') k) (le_of_eq (simp (mul_assoc, mul_comm, mul_left_comm)))) in
    let s : (n * e + m * d) * (d' * e') ≡ n * e * (d' * e') + m * d * (d' * e') = add-mul (n * e) (m * d) (d' * e') in
    let t : (n' * e' + m' * d') * (d * e) ≡ n' * e' * (d * e) + m' * d' * (d * e) =
    add-mul (n' * e') (m' * d') (d * e) in
    omega arith

module _ {x x' y y' : Float} {B C : ℕ} (p : Amount x B) (p' : Amount x' B) (q : Amount y C) (q' : Amount y' C)
    (h : Below x x') (k : Below y y') where
  pub mul_below : B * C ≤ 2 ^ value_digits → Below (mul binary64 x y) (mul binary64 x' y')
  mul_below l =
      rounded_below (mul_rounded x y p.nonneg q.nonneg) (mul_rounded x' y' p'.nonneg q'.nonneg)
      (both_pos x y) (both_pos x' y') (B * C) l
      (product_most (num x) (den x) (num y) (den y) B C p.most q.most)
      (product_most (num x') (den x') (num y') (den y') B C p'.most q'.most)
      (product_below (num x) (den x) (num x') (den x') (num y) (den y) (num y') (den y') h k)

  pub add_below : B + C ≤ 2 ^ value_digits → Below (add binary64 x y) (add binary64 x' y')
  add_below l =
      rounded_below (add_rounded x y p.nonneg q.nonneg) (add_rounded x' y' p'.nonneg q'.nonneg)
      (both_pos x y) (both_pos x' y') (B + C) l
      (sum_most (num x) (den x) (num y) (den y) B C p.most q.most)
      (sum_most (num x') (den x') (num y') (den y') B C p'.most q'.most)
      (sum_below (num x) (den x) (num x') (den x') (num y) (den y) (num y') (den y') h k)

-- ---- whole numbers

-- x is the whole number p
pub record Whole (x : Float) (p : ℕ) : Type 0 where
  pub nonneg : T (plain x)
  pub exact : num x ≡ p * den x

sum_whole : (d e p q : ℕ) → p * d * e + q * e * d ≡ (p + q) * (d * e)
sum_whole d e p q =
    ap (λ (x : ℕ). x + q * e * d) (mul_assoc p d e)
    ∙ ap (λ (x : ℕ). p * (d * e) + x) (mul_assoc q e d ∙ ap (λ (x : ℕ). q * x) (mul_comm e d))
    ∙ sym (add-mul p q (d * e))

module _ {x y : Float} {p q : ℕ} (v : Whole x p) (w : Whole y q) where
  pub mul_whole : p * q ≤ 2 ^ value_digits → Whole (mul binary64 x y) (p * q)
  mul_whole h =
      let r = mul_rounded x y v.nonneg w.nonneg in
      let e : num x * num y ≡ p * q * (den x * den y) =
      ap (λ (z : ℕ). z * num y) v.exact ∙ ap (λ (z : ℕ). p * den x * z) w.exact
      ∙ mul-mul-mul_comm p (den x) q (den y) in
      record {
        nonneg = rounded_plain r (both_pos x y) (p * q) h (le_of_eq e);
        exact =
            rounded_whole r (both_pos x y) (p * q) h e;
      }

  pub add_whole : p + q ≤ 2 ^ value_digits → Whole (add binary64 x y) (p + q)
  add_whole h =
      let r = add_rounded x y v.nonneg w.nonneg in
      let e : num x * den y + num y * den x ≡ (p + q) * (den x * den y) =
      ap (λ (z : ℕ). z * den y + num y * den x) v.exact
      ∙ ap (λ (z : ℕ). p * den x * den y + z * den x) w.exact
      ∙ sum_whole (den x) (den y) p q in
      record {
        nonneg = rounded_plain r (both_pos x y) (p + q) h (le_of_eq e);
        exact =
            rounded_whole r (both_pos x y) (p + q) h e;
      }
