-- Magnitudes: what bounds a sum, a difference and a multiple, and when a number fits 64 bits. Assumes nothing.
use mathlib.Core.Path.{◌≡◌, refl}
use Prim.Native.Nat.{ℕ, zero, suc, ◌+◌, ◌*◌, ◌≤◌, ◌<◌, ◌^◌}
use native.Mathlib.Nat.{mul-le-mul}
use native.Mathlib.Omega.{arith}
use lib.IntN.{ℤ, pos, negsuc, neg_ℤ, nat_abs, ◌+ℤ◌, ◌-ℤ◌, ◌*ℤ◌}
use mir.Syntax.{w64}
use mir.Val.{SFits}
use Rattle.laws.proofs.Signed.{up, down, parts_add, parts_sub}

pub abs_parts : (z : ℤ) → nat_abs z ≡ up z + down z
unfolding up down
abs_parts (pos n) = omega arith
abs_parts (negsuc n) = omega arith

pub abs_bound : (z : ℤ) (m : ℕ) → up z ≤ down z + m → down z ≤ up z + m → nat_abs z ≤ m
unfolding up down
abs_bound (pos n) m p q = omega arith
abs_bound (negsuc n) m p q = omega arith

pub abs_add : (a b : ℤ) → nat_abs (a +ℤ b) ≤ nat_abs a + nat_abs b
abs_add a b =
    abs_bound (a +ℤ b) (nat_abs a + nat_abs b)
    (omega (arith, parts_add a b, abs_parts a, abs_parts b))
    (omega (arith, parts_add a b, abs_parts a, abs_parts b))

pub abs_sub : (a b : ℤ) → nat_abs (a -ℤ b) ≤ nat_abs a + nat_abs b
abs_sub a b =
    abs_bound (a -ℤ b) (nat_abs a + nat_abs b)
    (omega (arith, parts_sub a b, abs_parts a, abs_parts b))
    (omega (arith, parts_sub a b, abs_parts a, abs_parts b))

abs_neg : (n : ℕ) → nat_abs (neg_ℤ (pos n)) ≡ n
abs_neg zero = refl
abs_neg (suc n) = refl

pub abs_mul : (a : ℤ) (n : ℕ) → nat_abs (a *ℤ pos n) ≡ nat_abs a * n
abs_mul (pos a) n = refl
abs_mul (negsuc a) n = abs_neg (suc a * n)

pub abs_mul_le : (a : ℤ) {n k m : ℕ} → nat_abs a ≤ k → n ≤ m → nat_abs (a *ℤ pos n) ≤ k * m
abs_mul_le a h l = rw abs_mul (mul-le-mul h l)

pub fits_of_abs : (z : ℤ) → nat_abs z < 2 ^ 63 → SFits w64 z
fits_of_abs (pos n) h = record { sfits = omega arith }
fits_of_abs (negsuc n) h = record { sfits = omega arith }
