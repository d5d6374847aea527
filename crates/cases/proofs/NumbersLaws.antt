-- Laws of numbers in bytes: a number of v + w bytes is one of v bytes and one of w bytes, so that one law serves every
-- width, reading and writing. Assumes nothing.
use mathlib.Core.Path.{◌≡◌, ap, ◌∙◌}
use mathlib.Core.List.{List, [], ◌∷◌, ◌++◌}
use Prim.Native.Nat.{ℕ, zero, suc, ◌+◌, ◌*◌, ◌/◌, ◌%◌, ◌^◌, ◌<◌}
use native.Mathlib.Nat.{pow-succ', mul_assoc, add-zero, zero-add, suc-add}
use native.Mathlib.Omega.{arith}
use lib.ListN.{get_or}
use Rattle.cases.specs.Layout.{number_at, bytes}
use Rattle.cases.proofs.LayoutLaws.{number_at_suc, number_at_zero}

pub number_at_one : (s : List ℕ) (at : ℕ) → number_at s at 1 ≡ get_or s at 0
number_at_one s at = omega (arith, number_at_suc s at 0, number_at_zero s (suc at))

pow_step : (v x : ℕ) → 256 ^ suc v * x ≡ 256 * (256 ^ v * x)
pow_step v x = ap (λ k. k * x) (pow-succ' 256 v) ∙ mul_assoc 256 (256 ^ v) x

pub number_at_split : (s : List ℕ) (at v w : ℕ)
    → number_at s at (v + w) ≡ number_at s at v + 256 ^ v * number_at s (at + v) w
number_at_split s at zero w = rw (zero-add w, add-zero at) (omega (arith, number_at_zero s at))
number_at_split s at (suc v) w =
    let e : at + suc v ≡ suc at + v = omega arith in
    rw (suc-add v w, e)
    (omega (
      arith,
      number_at_suc s at (v + w),
      number_at_suc s at v,
      number_at_split s (suc at) v w,
      pow_step v (number_at s (suc at + v) w),
    ))

pub bytes_split : (v w a b : ℕ) → a < 256 ^ v → bytes (v + w) (a + 256 ^ v * b) ≡ bytes v a ++ bytes w b
unfolding bytes
bytes_split zero w a b h = rw (zero-add w) (ap (bytes w) (let e : a + 256 ^ 0 * b ≡ b = omega arith in e))
bytes_split (suc v) w a b h =
    let p = pow_step v b in
    let m : (a + 256 ^ suc v * b) % 256 ≡ a % 256 = omega arith in
    let d : (a + 256 ^ suc v * b) / 256 ≡ a / 256 + 256 ^ v * b = omega arith in
    let small : a / 256 < 256 ^ v = omega (arith, pow-succ' 256 v) in
    rw (suc-add v w, m, d) (ap (λ t. a % 256 ∷ t) (bytes_split v w (a / 256) b small))

pub bytes_one : (n : ℕ) → n < 256 → bytes 1 n ≡ n ∷ []
unfolding bytes
bytes_one n h = ap (λ x. x ∷ []) (let e : n % 256 ≡ n = omega arith in e)
