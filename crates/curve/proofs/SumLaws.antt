-- A product and a sum of binary64 values that are finite and not negative, up to a zero's sign: each is the exact
-- fraction rounded once. The cases of a sign, of which a minus zero has one, stand here alone. Assumes nothing.
use mathlib.Core.Path.{◌≡◌, refl, sym, ap, ◌∙◌, subst}
use mathlib.Core.Logic.{inl, inr}
use mathlib.Core.Bool.{Bool, true, false, not, ◌&&◌, cond}
use Prim.Native.Nat.{ℕ, zero, suc, ◌+◌, ◌-◌, ◌*◌, ◌≤◌, ◌<◌}
use native.Mathlib.Nat.{zero-mul, mul-zero}
use native.Mathlib.Omega.{arith}
use lib.Dec.{T, ltb, eqb, ltb→lt, nltb→le, eqb→eq}
use lib.Ieee.{Float, nan, inf, fin, binary64, up, down, round, sum, add, mul}
use lib.Ieee.Positive.{num, den}
use Rattle.curve.proofs.PatternLaws.{plain}
use Rattle.curve.proofs.RoundLaws.{Rounded}

-- ---- a product

pub mul_rounded : (x y : Float) → T (plain x) → T (plain y)
    → Rounded (mul binary64 x y) (num x * num y) (den x * den y)
unfolding mul
mul_rounded nan y p q = absurd p
mul_rounded (inf s) y p q = absurd p
mul_rounded (fin s m e) nan p q = absurd q
mul_rounded (fin s m e) (inf t) p q = absurd q
mul_rounded (fin false m e) (fin false n d) p q = record { sign = false; is = refl; free = inl tt }
mul_rounded (fin true m e) (fin t n d) p q = record {
  sign = _;
  is = refl;
  free = inr (ap (λ (x : ℕ). x * up e * (n * up d)) (eqb→eq m 0 p) ∙ ap (λ (x : ℕ). x * (n * up d)) (zero-mul (up e))
      ∙ zero-mul (n * up d));
}
mul_rounded (fin false m e) (fin true n d) p q = record {
  sign = _;
  is = refl;
  free = inr (ap (λ (x : ℕ). m * up e * (x * up d)) (eqb→eq n 0 q) ∙ ap (λ (x : ℕ). m * up e * x) (zero-mul (up d))
      ∙ mul-zero (m * up e));
}

-- ---- a sum

less_none : (f : Float) (g : ℕ → Float) (a : ℕ) → cond (ltb a 0) f (g (a - 0)) ≡ g (a + 0)
less_none f g a = go (ltb a 0) (ltb→lt a 0)
  where
    go : (t : Bool) → (T t → a < 0) → cond t f (g (a - 0)) ≡ g (a + 0)
    go true h = let l = h tt in absurd (omega arith)
    go false h = let e : a - 0 ≡ a + 0 = omega arith in ap g e

plus_minus : (a b c : ℕ) → b ≡ 0 → sum binary64 false a true b c ≡ round binary64 false (a + b) c
unfolding sum
plus_minus a b c e =
    subst (λ (x : ℕ). cond (ltb a x) (round binary64 true (x - a) c) (round binary64 false (a - x) c) ≡ round binary64
    false (a + x) c) (sym e)
    (less_none (round binary64 true (0 - a) c) (λ (x : ℕ). round binary64 false x c) a)

none_plus : (b c : ℕ) → cond (ltb 0 b) (round binary64 false (b - 0) c)
    (round binary64 (true && ltb b 0) (0 - b) c) ≡ round binary64 false (0 + b) c
none_plus zero c = refl
none_plus (suc b) c = go (ltb 0 (suc b)) (nltb→le 0 (suc b))
  where
    go : (t : Bool) → (T (not t) → suc b ≤ 0)
        → cond t (round binary64 false (suc b - 0) c) (round binary64 (true && ltb (suc b) 0) (0 - suc b) c) ≡ round
        binary64 false (0 + suc b) c
    go true h = let e : suc b - 0 ≡ 0 + suc b = omega arith in ap (λ (x : ℕ). round binary64 false x c) e
    go false h = let l = h tt in absurd (omega arith)

minus_plus : (a b c : ℕ) → a ≡ 0 → sum binary64 true a false b c ≡ round binary64 false (a + b) c
unfolding sum
minus_plus a b c e =
    subst (λ (x : ℕ). cond (ltb x b) (round binary64 false (b - x) c)
    (round binary64 (true && ltb b x) (x - b) c) ≡ round binary64 false (x + b) c) (sym e)
    (none_plus b c)

minus_minus : (a b c : ℕ) → sum binary64 true a true b c ≡ round binary64 true (a + b) c
unfolding sum
minus_minus a b c = refl

plus_plus : (a b c : ℕ) → sum binary64 false a false b c ≡ round binary64 false (a + b) c
unfolding sum
plus_plus a b c = refl

pub gone : (m u d : ℕ) → T (eqb m 0) → m * u * d ≡ 0
gone m u d p = ap (λ (x : ℕ). x * u * d) (eqb→eq m 0 p) ∙ ap (λ (x : ℕ). x * d) (zero-mul u) ∙ zero-mul d

pub add_rounded : (x y : Float) → T (plain x) → T (plain y)
    → Rounded (add binary64 x y) (num x * den y + num y * den x) (den x * den y)
unfolding add
add_rounded nan y p q = absurd p
add_rounded (inf s) y p q = absurd p
add_rounded (fin s m e) nan p q = absurd q
add_rounded (fin s m e) (inf t) p q = absurd q
add_rounded (fin false m e) (fin false n d) p q = record {
  sign = false;
  is = plus_plus (m * up e * down d) (n * up d * down e) (down e * down d);
  free = inl tt;
}
add_rounded (fin false m e) (fin true n d) p q = record {
  sign = false;
  is = plus_minus (m * up e * down d) (n * up d * down e) (down e * down d) (gone n (up d) (down e) q);
  free = inl tt;
}
add_rounded (fin true m e) (fin false n d) p q = record {
  sign = false;
  is = minus_plus (m * up e * down d) (n * up d * down e) (down e * down d) (gone m (up e) (down d) p);
  free = inl tt;
}
add_rounded (fin true m e) (fin true n d) p q =
    let a : m * up e * down d ≡ 0 = gone m (up e) (down d) p in
    let b : n * up d * down e ≡ 0 = gone n (up d) (down e) q in
    record {
      sign = true;
      is = minus_minus (m * up e * down d) (n * up d * down e) (down e * down d);
      free =
          inr (omega arith);
    }
