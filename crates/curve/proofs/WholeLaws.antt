-- Whole coefficients: the entry is the formula in whole numbers. Assumes nothing.
use mathlib.Core.Path.{◌≡◌, ap, ◌∙◌}
use mathlib.Core.Bool.{true, false, ◌||◌, beq}
use Prim.Native.Nat.{ℕ, ◌+◌, ◌*◌, ◌^◌, ◌≤◌, ◌<◌}
use native.Mathlib.Nat.{mul_right_comm, mul-le-mul, eq_of_mul-eq-mul_right}
use native.Mathlib.Omega.{arith}
use lib.Dec.{T, eqb, eqb→eq}
use lib.Ieee.{Float, nan, inf, fin, up, down, eq}
use lib.Ieee.Fits.{and_l, and_r, eq→eqb, up_pos, down_pos}
use lib.Ieee.Nearest.{closest}
use lib.Ieee.Positive.{num, den, den_pos}
use Rattle.curve.specs.declared.Kind.{Kind}
use Rattle.curve.specs.declared.Kind.TheVariants.{Straight, Curved}
use Rattle.curve.specs.Pattern.{value_digits}
use Rattle.curve.specs.Cost.{most_energy, most_coefficient, whole, held, cost_of, entry_of}
use Rattle.curve.proofs.NearestLaws.{closest_whole}
use Rattle.curve.proofs.PatternLaws.{plain, zero_of_mul, whole_value}
use Rattle.curve.proofs.SumLaws.{gone}
use Rattle.curve.proofs.AmountLaws.{Whole, mul_whole, add_whole}
use Rattle.curve.proofs.CostLaws.{most2, whole_whole, cost_fits}

-- ---- a value that equals a whole number

none : (m u d : ℕ) → 0 < u → 0 < d → m * u * d ≡ 0 → m ≡ 0
none m u d U D e = zero_of_mul m u U (zero_of_mul (m * u) d D e)

pub equal_size : (x w : Float) → T (eq x w) → T (plain w) → T (plain x) × (num x * den w ≡ num w * den x)
unfolding eq
equal_size nan w t p = absurd t
equal_size (inf s) nan t p = absurd p
equal_size (inf s) (inf r) t p = absurd p
equal_size (inf s) (fin r n d) t p = absurd t
equal_size (fin s m e) nan t p = absurd p
equal_size (fin s m e) (inf r) t p = absurd p
equal_size (fin false m e) (fin r n d) t p = (
  tt,
  eqb→eq (m * up e * down d) (n * up d * down e)
      (and_l (eqb (m * up e * down d) (n * up d * down e)) (beq false r || eqb (m * up e * down d) 0) t),
)
equal_size (fin true m e) (fin true n d) t p =
    let a : m * up e * down d ≡ n * up d * down e =
    eqb→eq (m * up e * down d) (n * up d * down e) (and_l (eqb (m * up e * down d) (n * up d * down e)) true t) in
    (eq→eqb (none m (up e) (down d) (up_pos e) (down_pos d) (a ∙ gone n (up d) (down e) p)), a)
equal_size (fin true m e) (fin false n d) t p =
    let a = eqb (m * up e * down d) (n * up d * down e) in
    let z = eqb (m * up e * down d) 0 in (
      eq→eqb (none m (up e) (down d) (up_pos e) (down_pos d) (eqb→eq (m * up e * down d) 0 (and_r a z t))),
      eqb→eq
          (m * up e * down d) (n * up d * down e) (and_l a z t),
    )

pub whole_of_eq : (x : Float) (p : ℕ) → p ≤ most_coefficient → T (eq x (whole p)) → Whole x p
whole_of_eq x p h t =
    let l : p ≤ 2 ^ value_digits = omega arith in
    let w = whole_whole p l in
    let s = equal_size x (whole p) t w.nonneg in
    record {
      nonneg = s.0;
      exact = eq_of_mul-eq-mul_right (den (whole p)) (den_pos (whole p)) (num x) (p * den x)
          (s.1 ∙ ap (λ (z : ℕ). z * den x) w.exact ∙ mul_right_comm p (den (whole p)) (den x));
    }

-- ---- the costs

pub entry_whole : (k : Kind) (n p : ℕ) → T (held k) → Whole (cost_of k n) p → entry_of k n ≡ p
unfolding entry_of
entry_whole k n p h v =
    let x = cost_of k n in
    whole_value x (cost_fits k n h) v.nonneg ∙ ap (λ (z : ℕ). closest z (den x)) v.exact
    ∙ closest_whole p (den x) (den_pos x)

module _ {a b : Float} {A B n : ℕ} (u : Whole a A) (v : Whole b B) (hA : A ≤ most_coefficient) (hB : B ≤ most_coefficient)
    (h : n ≤ most_energy) where
  pub straight_whole : Whole (cost_of (Straight a b) n) (B * n + A)
  unfolding cost_of
  straight_whole =
      let w : Whole (whole n) n = whole_whole n (omega arith) in
      let i : B * n ≤ most_coefficient * most_energy = mul-le-mul hB h in
      add_whole (mul_whole v w (omega arith)) u (omega arith)

  pub curved_whole : {c : Float} {C : ℕ} → Whole c C → C ≤ most_coefficient
      → Whole (cost_of (Curved a b c) n) ((C * n + B) * n + A)
  unfolding cost_of
  curved_whole {c} {C} x hC =
      let w : Whole (whole n) n = whole_whole n (omega arith) in
      let i : C * n ≤ most_coefficient * most_energy = mul-le-mul hC h in
      let j : C * n + B ≤ most2 = omega arith in
      let k : (C * n + B) * n ≤ most2 * most_energy = mul-le-mul j h in
      add_whole (mul_whole (add_whole (mul_whole x w (omega arith)) v (omega arith)) w (omega arith)) u (omega arith)
