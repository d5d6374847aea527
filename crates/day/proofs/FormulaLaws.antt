-- The rules as tests on natural numbers, and in the source's own form with its minus signs. Assumes nothing.
use mathlib.Core.Path.{◌≡◌, ap}
use mathlib.Core.Logic.{◌↔◌}
use Prim.Native.Nat.{ℕ, ◌+◌, ◌*◌, ◌≤◌}
use native.Mathlib.Omega.{arith}
use lib.Dec.{T, leb, eqb, le→leb, leb→le, eqb→eq}
use lib.IntN.{ℤ, pos, ◌+ℤ◌, ◌-ℤ◌}
use lib.Signed.{◌≤ℤ◌}
use borrow.Author.Tests.{eq-eqb}
use Rattle.laws.proofs.Signed.{up, down, linear, eq_parts, parts_eq, parts_add, parts_sub, parts_mul, parts_pos}
use Rattle.laws.proofs.Tests.{true_to_t}
use Rattle.day.specs.Words.{scaled}

-- (a − b) × n in parts
pub scaled_parts : (a b n : ℕ) → up (scaled a b n) + n * b ≡ n * a + down (scaled a b n)
scaled_parts a b n =
    let d : ℤ = pos a -ℤ pos b in
    let e : up d + b ≡ a + down d = omega (linear, parts_sub (pos a) (pos b), parts_pos a, parts_pos b) in
    omega (arith, parts_mul d n, ap (λ x. x * n) e)

-- a test on natural numbers is the order of two signed ones that are as far apart
signed : (a b : ℤ) (m n : ℕ) → up a + down b + n ≡ up b + down a + m → T (leb m n) ↔ (a ≤ℤ b)
signed a b m n e = (λ t. omega (linear, e, leb→le m n t), λ h. le→leb m n (omega (linear, e, h)))

-- (1), (2): an output is at least so much
pub least : (n v s w x : ℕ) → T (leb (n * v + w) (x + n * s)) ↔ ((scaled v s n +ℤ pos w) ≤ℤ pos x)
least n v s w x =
    signed (scaled v s n +ℤ pos w) (pos x) (n * v + w) (x + n * s)
    (omega (arith, parts_add (scaled v s n) (pos w), scaled_parts v s n, parts_pos w, parts_pos x))

-- (3), (4): and at most so much
pub most : (n v s w x : ℕ) → T (leb (x + n * s) (w + n * v)) ↔ (pos x ≤ℤ (pos w +ℤ scaled v s n))
most n v s w x =
    signed (pos x) (pos w +ℤ scaled v s n) (x + n * s) (w + n * v)
    (omega (arith, parts_add (pos w) (scaled v s n), scaled_parts v s n, parts_pos w, parts_pos x))

-- (5), (6): from an output q to an output x, waived s times
pub ramp : (n m v s q x : ℕ)
    → T (leb (x + n * s) (q + (m * s + n * v))) ↔ ((pos x -ℤ pos q) ≤ℤ (pos (m * s) +ℤ scaled v s n))
ramp n m v s q x =
    signed (pos x -ℤ pos q) (pos (m * s) +ℤ scaled v s n) (x + n * s) (q + (m * s + n * v))
    (omega (
      arith,
      parts_sub (pos x) (pos q),
      parts_add (pos (m * s)) (scaled v s n),
      scaled_parts v s n,
      parts_pos x,
      parts_pos q,
      parts_pos (m * s),
    ))

-- (11), (12): at least n where s is 2
pub meeting : (n s x : ℕ) → T (leb (n * s) (x + n)) ↔ (scaled s 1 n ≤ℤ pos x)
meeting n s x = signed (scaled s 1 n) (pos x) (n * s) (x + n) (omega (arith, scaled_parts s 1 n, parts_pos x))

-- (8), (9), (10): a comparison as it stands
pub at_most : (a b : ℕ) → T (leb a b) ↔ (a ≤ b)
at_most a b = (leb→le a b, le→leb a b)

-- (7): starts less stops are the change of the commitment
pub balance : (y w v z : ℕ) → T (eqb (y + w) (v + z)) ↔ (pos y -ℤ pos z ≡ pos v -ℤ pos w)
balance y w v z = (
  λ t. there (eqb→eq (y + w) (v + z) t),
  λ h. true_to_t (eqb (y + w) (v + z)) (eq-eqb (y + w) (v + z) (back h)),
)
  where
    there : y + w ≡ v + z → pos y -ℤ pos z ≡ pos v -ℤ pos w
    there e =
        parts_eq (pos y -ℤ pos z) (pos v -ℤ pos w)
        (omega (
          arith,
          e,
          parts_sub (pos y) (pos z),
          parts_sub (pos v) (pos w),
          parts_pos y,
          parts_pos z,
          parts_pos v,
          parts_pos w,
        ))

    back : pos y -ℤ pos z ≡ pos v -ℤ pos w → y + w ≡ v + z
    back h = omega (
      arith,
      eq_parts (pos y -ℤ pos z) (pos v -ℤ pos w) h,
      parts_sub (pos y) (pos z),
      parts_sub (pos v) (pos w),
      parts_pos y,
      parts_pos z,
      parts_pos v,
      parts_pos w,
    )
