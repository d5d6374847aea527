-- An entry lies close to the formula in the coefficients' exact values: each of the four operations is off by a little
-- of its size, and the last rounding by a half. Assumes nothing.
use mathlib.Core.Path.{◌≡◌, refl, sym, ap, ◌∙◌, subst}
use Prim.Native.Nat.{ℕ, ◌+◌, ◌*◌, ◌^◌, ◌≤◌, ◌<◌}
use native.Mathlib.Nat.{le_trans, le_of_eq, lt_of_lt_of_le, lt_of_le_of_lt, mul_comm, mul_assoc, mul_right_comm}
use native.Mathlib.Nat.{mul-pos, mul-mul-mul_comm, mul-lt-mul_of_pos_right, mul-le-mul_left, mul-le-mul_right}
use native.Mathlib.Nat.{mul-le-mul, add-le-add, le_of_mul-le-mul_right, add-mul}
use native.Mathlib.Omega.{arith}
use lib.Dec.{lit≤, lit<}
use lib.Pow.{pow-add, pow_pos}
use lib.Ieee.{Float, binary64, add, mul}
use lib.Ieee.Nearest.{closest, closest_same}
use lib.Ieee.Positive.{num, den, den_pos}
use Rattle.curve.specs.declared.Kind.TheVariants.{Curved}
use Rattle.curve.specs.Pattern.{value_digits, scale}
use Rattle.curve.specs.Cost.{most_energy, whole, cost_of, entry_of}
use Rattle.curve.specs.Promises.{Close, formula, parts, apart}
use Rattle.curve.proofs.NearestLaws.{closest_half}
use Rattle.curve.proofs.SumLaws.{mul_rounded, add_rounded}
use Rattle.curve.proofs.AmountLaws.{Amount, product_most, sum_most}
use Rattle.curve.proofs.CostLaws.{Good, whole_whole, whole_amount, step1, step2, step3, curved_fits}
use Rattle.curve.proofs.CostLaws.{entry_closest}
use Rattle.curve.proofs.NearLaws.{Near, Units, Rounds, rounded_near}

-- ---- the operations

-- an amount of B has at most B units of 1
units_most : {x : Float} {X B : ℕ} → Units x X → Amount x B → X ≤ B * 2 ^ scale
units_most {x} {X} {B} u p =
    le_of_mul-le-mul_right
    (le_trans (le_of_eq (sym u.size))
    (le_trans (mul-le-mul_right (2 ^ scale) p.most) (le_of_eq (mul_right_comm B (den x) (2 ^ scale)))))
    (den_pos x)

-- below 2 ^ k
below : (X P k : ℕ) → X ≤ P * 2 ^ scale → P < 2 ^ k → X < 2 ^ (k + scale)
below X P k h l =
    lt_of_le_of_lt h (lt_of_lt_of_le (mul-lt-mul_of_pos_right l (pow_pos scale)) (le_of_eq (sym (pow-add 2 k scale))))

mul_near : {x : Float} {X B : ℕ} (n k : ℕ) → Units x X → Amount x B → n ≤ most_energy
    → B * most_energy ≤ 2 ^ value_digits → B * most_energy < 2 ^ k
    → Rounds (mul binary64 x (whole n)) (X * n) k
mul_near {x} {X} {B} n k u p h l b =
    let y = whole n in
    let q = whole_amount n h in
    let w : num y ≡ n * den y = (whole_whole n (omega arith)).exact in
    let e : num x * num y * 2 ^ scale ≡ X * n * (den x * den y) =
    mul_right_comm (num x) (num y) (2 ^ scale)
    ∙ ap (λ (z : ℕ). z * num y) u.size
    ∙ ap (λ (z : ℕ). X * den x * z) w
    ∙ mul-mul-mul_comm X (den x) n (den y) in
    let m : X * n ≤ B * most_energy * 2 ^ scale =
    le_trans (mul-le-mul (units_most u p) h) (le_of_eq (mul_right_comm B (2 ^ scale) most_energy)) in
    rounded_near (mul_rounded x y p.nonneg q.nonneg) (mul-pos (den_pos x) (den_pos y)) (B * most_energy) l
    (product_most (num x) (den x) (num y) (den y) B most_energy p.most q.most) (X * n) k e
    (below (X * n) (B * most_energy) k m b)

add_near : {x y : Float} {X Y B C : ℕ} (k : ℕ) → Units x X → Units y Y → Amount x B → Amount y C
    → B + C ≤ 2 ^ value_digits → B + C < 2 ^ k
    → Rounds (add binary64 x y) (X + Y) k
add_near {x} {y} {X} {Y} {B} {C} k u v p q l b =
    let e : (num x * den y + num y * den x) * 2 ^ scale ≡ (X + Y) * (den x * den y) =
    add-mul (num x * den y) (num y * den x) (2 ^ scale)
    ∙ ap (λ (z : ℕ). z + num y * den x * 2 ^ scale)
    (mul_right_comm (num x) (den y) (2 ^ scale) ∙ ap (λ (z : ℕ). z * den y) u.size
    ∙ mul_assoc X (den x) (den y))
    ∙ ap (λ (z : ℕ). X * (den x * den y) + z)
    (mul_right_comm (num y) (den x) (2 ^ scale) ∙ ap (λ (z : ℕ). z * den x) v.size ∙ mul_assoc Y (den y) (den x)
    ∙ ap (λ (z : ℕ). Y * z) (mul_comm (den y) (den x)))
    ∙ sym (add-mul X Y (den x * den y)) in
    let m : X + Y ≤ (B + C) * 2 ^ scale =
    le_trans (add-le-add (units_most u p) (units_most v q)) (le_of_eq (sym (add-mul B C (2 ^ scale)))) in
    rounded_near (add_rounded x y p.nonneg q.nonneg) (mul-pos (den_pos x) (den_pos y)) (B + C) l
    (sum_most (num x) (den x) (num y) (den y) B C p.most q.most) (X + Y) k e (below (X + Y) (B + C) k m b)

-- ---- the cost

-- how far a value below 2 ^ 30 is moved, in units; one below 2 ^ 40 is moved 1024 times as far
abbrev small : ℕ
small = 2 ^ (30 + 1020)

-- the four errors together
together : (A B C n X1 X2 X3 X4 w : ℕ) → n ≤ most_energy → Near X1 (C * n) w → Near X2 (X1 + B) w
    → Near X3 (X2 * n) (1024 * w) → Near X4 (X3 + A) (1024 * w)
    → Near X4 (formula A B C n) (parts * w)
together A B C n X1 X2 X3 X4 w h p q r s =
    let e = C * n + B in
    let o : X2 ≤ e + 2 * w = omega arith in
    let u : e ≤ X2 + 2 * w = omega arith in
    let wn : w * n ≤ w * most_energy = mul-le-mul_left w h in
    let O : X2 * n ≤ e * n + 2 * (w * n) =
    le_trans (mul-le-mul_right n o) (le_of_eq (add-mul e (2 * w) n ∙ ap (λ (x : ℕ). e * n + x) (mul_assoc 2 w n)))
    in
    let U : e * n ≤ X2 * n + 2 * (w * n) =
    le_trans (mul-le-mul_right n u)
    (le_of_eq (add-mul X2 (2 * w) n ∙ ap (λ (x : ℕ). X2 * n + x) (mul_assoc 2 w n))) in
    finish (e * n) (X2 * n) (w * n) O U wn r
  where
    finish : (E Y v : ℕ) → Y ≤ E + 2 * v → E ≤ Y + 2 * v → v ≤ w * most_energy → Near X3 Y (1024 * w)
        → Near X4 (E + A) (parts * w)
    finish E Y v O U k t = record {
      over = omega (arith, t.over, t.under, s.over, s.under);
      under =
          omega (arith, t.over, t.under, s.over, s.under);
    }

-- ---- the entry

-- a half, and an error of 1 / parts
close : (t E X l v : ℕ) → 2 * (t * l) ≤ 2 * X + l → 2 * X ≤ 2 * (t * l) + l → Near X E v → l ≡ parts * v
    → (parts * (t * l) ≤ parts * E + apart * l) × (parts * E ≤ parts * (t * l) + apart * l)
close t E X l v h k n e = go (t * l) h k
  where
    go : (T : ℕ) → 2 * T ≤ 2 * X + l → 2 * X ≤ 2 * T + l
        → (parts * T ≤ parts * E + apart * l) × (parts * E ≤ parts * T + apart * l)
    go T h k = (omega (arith, n.over, n.under), omega (arith, n.over, n.under))

module _ (a b c : Float) (A B C n : ℕ) (u : Units a A) (v : Units b B) (x : Units c C) (g : Good (Curved a b c))
    (h : n ≤ most_energy) where
  pub curved_close : Close (entry_of (Curved a b c) n) (formula A B C n)
  unfolding cost_of
  curved_close =
      let one = mul_near n 30 x g.2 h (lit≤ tt) (lit< tt) in
      let two = add_near 30 one.units v (step1 g.2 n h) g.1 (lit≤ tt) (lit< tt) in
      let three = mul_near n 40 two.units (step2 g.2 n h g.1) h (lit≤ tt) (lit< tt) in
      let four = add_near 40 three.units u (step3 g.2 n h g.1) g.0 (lit≤ tt) (lit< tt) in
      let X = four.value in
      let y = cost_of (Curved a b c) n in
      let t : entry_of (Curved a b c) n ≡ closest X (2 ^ scale) =
      entry_closest (Curved a b c) n (curved_fits a b c n) g h
      ∙ closest_same (num y) (den y) X (2 ^ scale) (den_pos y) (pow_pos scale) four.units.size in
      let e : Near X (formula A B C n) (parts * small) =
      together A B C n one.value two.value three.value X small h one.near two.near
      three.near four.near in
      let f = closest_half X (2 ^ scale) (pow_pos scale) in
      let k = close (closest X (2 ^ scale)) (formula A B C n) X (2 ^ scale) (parts * small) f.over
      f.under e refl in
      subst (λ (z : ℕ). Close z (formula A B C n)) (sym t) (record { over = k.0; under = k.1 })
