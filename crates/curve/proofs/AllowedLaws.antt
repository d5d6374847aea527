-- The coefficients that refusal 16 lets pass are the amounts of at most the most coefficient; by their patterns, those
-- of a number that is not below zero and not above it. Assumes nothing.
use mathlib.Core.Path.{◌≡◌, sym, ap, ◌∙◌}
use mathlib.Core.Logic.{inl, inr, ◌↔◌}
use mathlib.Core.Bool.{true, false, ◌&&◌, ◌||◌}
use Prim.Native.Nat.{ℕ, ◌+◌, ◌*◌, ◌^◌, ◌≤◌, ◌<◌}
use native.Mathlib.Nat.{le_trans, le_of_eq, lt_of_le_of_lt, zero-mul, mul-one, mul_right_comm, eq-or-lt_of_le}
use native.Mathlib.Nat.{mul-le-mul_right, mul-lt-mul_of_pos_right, le_of_mul-le-mul_right}
use native.Mathlib.Omega.{arith}
use lib.Dec.{T, ltb, eqb, lt→ltb, eqb→eq, lit<}
use lib.Pow.{pow_pos}
use lib.Ieee.{Float, nan, inf, fin, binary64, up, down, le, of_int, fits, to_bits}
use lib.Ieee.Fits.{eq→eqb, up_pos, down_pos}
use lib.Ieee.Positive.{den, den_pos}
use Rattle.laws.proofs.Tests.{and_to_both, both_to_and, left_to_or, right_to_or}
use Rattle.curve.specs.Pattern.{fraction_digits, scale}
use Rattle.curve.specs.Cost.{most_coefficient, whole, allowed}
use Rattle.curve.specs.Promises.{Number, exactly}
use Rattle.curve.proofs.PatternLaws.{plain, zero_of_mul, units_value, field_below}
use Rattle.curve.proofs.SignLaws.{sign_clear, plain_of_bits}
use Rattle.curve.proofs.RoundLaws.{lt_or_eq}
use Rattle.curve.proofs.AmountLaws.{Amount}

-- ---- an allowed coefficient is an amount

from_zero : (x : Float) → T (le (whole 0) x) → T (le x (whole most_coefficient)) → Amount x most_coefficient
unfolding le of_int
from_zero nan h k = absurd h
from_zero (inf true) h k = absurd h
from_zero (inf false) h k = absurd k
from_zero (fin true m e) h k =
    let t = and_to_both (eqb (0 * down e) (m * up e * 1)) (eqb (0 * down e) 0) h in
    let z : 0 * down e ≡ m * up e * 1 = eqb→eq (0 * down e) (m * up e * 1) t.0 in
    let n : m * up e ≡ 0 = sym (mul-one (m * up e)) ∙ sym z ∙ zero-mul (down e) in
    record { nonneg = eq→eqb (zero_of_mul m (up e) (up_pos e) n); most = le_trans (le_of_eq n) (omega arith) }
from_zero (fin false m e) h k =
    let l : m * up e * 1 ≤ most_coefficient * down e = lt_or_eq (m * up e * 1) (most_coefficient * down e) k in
    record { nonneg = tt; most = omega arith }

pub allowed_amount : (x : Float) → T (allowed x) → Amount x most_coefficient
unfolding allowed
allowed_amount x h =
    let t = and_to_both (le (whole 0) x) (le x (whole most_coefficient)) h in
    from_zero x t.0 t.1

-- ---- and an amount is allowed

or_of_le : (a b : ℕ) → a ≤ b → T (ltb a b || (eqb a b && true))
or_of_le a b h = elim (eq-or-lt_of_le h) [
  | inl e ↦ right_to_or (ltb a b) (eqb a b && true) (both_to_and (eqb a b) true (eq→eqb e) tt)
  | inr l ↦ left_to_or (ltb a b) (eqb a b && true) (lt→ltb a b l)
]

above : (x : Float) → T (plain x) → T (le (whole 0) x)
unfolding le of_int
above nan p = absurd p
above (inf s) p = absurd p
above (fin false m e) p = or_of_le (0 * down e) (m * up e * 1) (le_trans (le_of_eq (zero-mul (down e))) (omega arith))
above (fin true m e) p =
    let z : 0 * down e ≡ 0 = zero-mul (down e) in
    let n : m * up e * 1 ≡ 0 = mul-one (m * up e) ∙ ap (λ (x : ℕ). x * up e) (eqb→eq m 0 p) ∙ zero-mul (up e) in
    both_to_and (eqb (0 * down e) (m * up e * 1)) (eqb (0 * down e) 0) (eq→eqb (z ∙ sym n)) (eq→eqb z)

below : (x : Float) → Amount x most_coefficient → T (le x (whole most_coefficient))
unfolding le of_int
below nan p = absurd p.nonneg
below (inf s) p = absurd p.nonneg
below (fin false m e) p = or_of_le (m * up e * 1) (most_coefficient * down e) (omega (arith, p.most))
below (fin true m e) p =
    let r : 0 < m * up e * 1 + most_coefficient * down e = omega (arith, down_pos e) in
    left_to_or (ltb 0 (m * up e * 1 + most_coefficient * down e)) _ (lt→ltb 0 _ r)

amount_allowed : (x : Float) → Amount x most_coefficient → T (allowed x)
unfolding allowed
amount_allowed x p =
    both_to_and (le (whole 0) x) (le x (whole most_coefficient)) (above x p.nonneg) (below x p)

-- ---- by the pattern

module _ (x : Float) (h : T (fits binary64 x)) where
  bits_of : T (allowed x) → Number (to_bits binary64 x) × (exactly x ≤ most_coefficient * 2 ^ scale)
  bits_of t =
      let p = allowed_amount x t in
      let small : most_coefficient < 2 ^ fraction_digits = lit< tt in
      let l = lt_of_le_of_lt p.most (mul-lt-mul_of_pos_right small (den_pos x)) in
      let turned = mul_right_comm most_coefficient (den x) (2 ^ scale) in
      let size = le_of_mul-le-mul_right
      (le_trans (le_of_eq (sym (units_value x h p.nonneg)))
      (le_trans (mul-le-mul_right (2 ^ scale) p.most) (le_of_eq turned))) (den_pos x) in (
        record {
          finite = lt_of_le_of_lt (field_below x h p.nonneg l) (lit< tt);
          sign = sign_clear x h p.nonneg;
        },
        size,
      )

  of_bits : Number (to_bits binary64 x) × (exactly x ≤ most_coefficient * 2 ^ scale) → T (allowed x)
  of_bits b =
      let p = plain_of_bits x h b.0.finite b.0.sign in
      let turned = mul_right_comm most_coefficient (2 ^ scale) (den x) in
      amount_allowed x (record {
        nonneg = p;
        most = le_of_mul-le-mul_right
            (le_trans (le_of_eq (units_value x h p))
            (le_trans (mul-le-mul_right (den x) b.1) (le_of_eq turned))) (pow_pos scale);
      })

  pub allowed_bits : T (allowed x) ↔ (Number (to_bits binary64 x) × (exactly x ≤ most_coefficient * 2 ^ scale))
  allowed_bits = (bits_of, of_bits)
