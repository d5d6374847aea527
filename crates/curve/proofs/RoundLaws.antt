-- A binary64 value that is a fraction, not negative, rounded once up to a zero's sign (`Rounded`): it keeps a whole
-- bound up to 2 ^ 53, keeps the order, and is exact at a whole number up to 2 ^ 53. Assumes nothing.
use mathlib.Core.Path.{◌≡◌, refl, sym, ap, ◌∙◌, subst}
use mathlib.Core.Logic.{◌⊎◌, inl, inr}
use mathlib.Core.Bool.{Bool, true, false, not, ◌&&◌, ◌||◌, cond, true≢false}
use Prim.Native.Nat.{ℕ, zero, suc, ◌+◌, ◌*◌, ◌^◌, ◌≤◌, ◌<◌}
use native.Mathlib.Nat.{le_trans, le_of_eq, le_of_lt, zero-mul, mul-one}
use native.Mathlib.Omega.{arith}
use lib.Dec.{T, ltb, eqb, ltb→lt, eqb→eq}
use lib.Ieee.{Float, nan, inf, fin, binary64, low, emax, up, down, odd, units, round, le}
use lib.Ieee.Fits.{round_is, up_pos, eq→eqb}
use lib.Ieee.Exact.{HasValue}
use lib.Ieee.Back.{round_whole}
use lib.Ieee.Order.{round_mono}
use lib.Ieee.Scale.{round_same, finite}
use lib.Ieee.Positive.{num, den, den_pos, value→cross, through}
use Rattle.curve.specs.Pattern.{value_digits, scale}
use Rattle.curve.proofs.PatternLaws.{plain, zero_of_mul}

-- ---- a rounded fraction with the sign clear

-- no NaN, and the sign is clear
abbrev clear : Float → Bool
clear nan = false
clear (inf s) = not s
clear (fin s m e) = not s

-- finite besides
abbrev pub fine : Float → Bool
fine nan = false
fine (inf s) = false
fine (fin s m e) = not s

-- what `units` gives by its test, an infinity where that fails
abbrev tested : Bool → Bool → ℕ → ℕ → Float
tested t s q k = cond t (odd (suc value_digits) s q k scale) (inf s)

units_clear : (q k : ℕ) → T (clear (units binary64 false q k))
unfolding units odd
units_clear q k = go (ltb (q * 2 ^ k) (2 ^ (low binary64 + suc (emax binary64)))) q
  where
    go : (t : Bool) (q : ℕ) → T (clear (tested t false q k))
    go true zero = tt
    go true (suc q) = tt
    go false q = tt

round_clear : (a d : ℕ) → T (clear (round binary64 false a d))
round_clear a d = subst (λ (z : Float). T (clear z)) (sym (round_is binary64 false a d)) (units_clear _ _)

below_fine : (x y : Float) → T (clear x) → T (fine y) → T (le x y) → T (fine x)
unfolding le
below_fine nan y p q h = absurd p
below_fine (inf true) y p q h = absurd p
below_fine (inf false) nan p q h = absurd q
below_fine (inf false) (inf t) p q h = absurd q
below_fine (inf false) (fin t n d) p q h = absurd h
below_fine (fin s m e) y p q h = p

pub lt_or_eq : (a b : ℕ) → T (ltb a b || (eqb a b && true)) → a ≤ b
lt_or_eq a b = go (ltb a b) (eqb a b) (ltb→lt a b) (eqb→eq a b)
  where
    go : (p q : Bool) → (T p → a < b) → (T q → a ≡ b) → T (p || (q && true)) → a ≤ b
    go true q h k t = le_of_lt (h tt)
    go false true h k t = le_of_eq (k tt)
    go false false h k t = absurd t

cross : (x y : Float) → T (fine x) → T (fine y) → T (le x y) → num x * den y ≤ num y * den x
unfolding le
cross nan y p q h = absurd p
cross (inf s) y p q h = absurd p
cross (fin true m e) y p q h = absurd p
cross (fin false m e) nan p q h = absurd q
cross (fin false m e) (inf t) p q h = absurd q
cross (fin false m e) (fin true n d) p q h = absurd q
cross (fin false m e) (fin false n d) p q h = lt_or_eq (m * up e * down d) (n * up d * down e) h

value_fine : (x : Float) (a c : ℕ) → HasValue x false a c → T (fine x)
value_fine nan a c h = absurd h
value_fine (inf s) a c h = absurd h
value_fine (fin true m e) a c h = absurd (true≢false h.0)
value_fine (fin false m e) a c h = tt

-- a whole number up to 2 ^ value_digits
abbrev W : ℕ → Float
W p = round binary64 false p 1

module _ (p : ℕ) (h : p ≤ 2 ^ value_digits) where
  w_fine : T (fine (W p))
  w_fine = value_fine (W p) p 1 (round_whole binary64 false p h)

  w_is : num (W p) ≡ p * den (W p)
  w_is = sym (mul-one (num (W p))) ∙ value→cross (W p) p 1 (round_whole binary64 false p h)

module _ (a d p : ℕ) (D : 0 < d) (h : p ≤ 2 ^ value_digits) (l : a ≤ p * d) where
  under : T (le (round binary64 false a d) (W p))
  under = round_mono binary64 a d p 1 D (omega arith) (le_trans (le_of_eq (mul-one a)) l)

  pub r_fine : T (fine (round binary64 false a d))
  r_fine = below_fine (round binary64 false a d) (W p) (round_clear a d) (w_fine p h) under

  r_most : num (round binary64 false a d) ≤ p * den (round binary64 false a d)
  r_most =
      let r = round binary64 false a d in
      le_trans (le_of_eq (sym (mul-one (num r))))
      (through (num r) (num (W p)) p (den r) (den (W p)) 1 (den_pos (W p)) (cross r (W p) r_fine (w_fine p h) under)
      (le_of_eq (mul-one (num (W p)) ∙ w_is p h)))

r_whole : (a d p : ℕ) → 0 < d → p ≤ 2 ^ value_digits → a ≡ p * d
    → num (round binary64 false a d) ≡ p * den (round binary64 false a d)
r_whole a d p D h e =
    subst (λ (z : Float). num z ≡ p * den z) (sym (round_same binary64 false a d p 1 D (omega arith) (mul-one a ∙ e)))
    (w_is p h)

-- ---- the sign does not change the size

units_size : (s : Bool) (q k : ℕ) → (num (units binary64 s q k) ≡ num (units binary64 false q k)) ×
    (den (units binary64 s q k) ≡ den (units binary64 false q k))
unfolding units odd
units_size s q k = go (ltb (q * 2 ^ k) (2 ^ (low binary64 + suc (emax binary64)))) q
  where
    go : (t : Bool) (q : ℕ)
        → (num (tested t s q k) ≡ num (tested t false q k)) × (den (tested t s q k) ≡ den (tested t false q k))
    go true zero = (refl, refl)
    go true (suc q) = (refl, refl)
    go false q = (refl, refl)

round_size : (s : Bool) (a d : ℕ) → (num (round binary64 s a d) ≡ num (round binary64 false a d)) ×
    (den (round binary64 s a d) ≡ den (round binary64 false a d))
round_size s a d = (
  ap num (round_is binary64 s a d) ∙ (units_size s _ _).0 ∙ sym (ap num (round_is binary64 false a d)),
  ap den (round_is binary64 s a d) ∙ (units_size s _ _).1 ∙ sym (ap den (round_is binary64 false a d)),
)

-- ---- a fraction rounded once, up to a zero's sign

pub record Rounded (z : Float) (a d : ℕ) : Type 0 where
  pub sign : Bool
  pub is : z ≡ round binary64 sign a d
  pub free : T (not sign) ⊎ (a ≡ 0)

fine_plain : (x : Float) → T (fine x) → T (plain x)
fine_plain nan p = absurd p
fine_plain (inf s) p = absurd p
fine_plain (fin true m e) p = absurd p
fine_plain (fin false m e) p = tt

pub fine_finite : (x : Float) → T (fine x) → T (finite x)
fine_finite nan p = absurd p
fine_finite (inf s) p = absurd p
fine_finite (fin s m e) p = tt

zero_plain : (x : Float) (s : Bool) → HasValue x s 0 1 → T (plain x)
zero_plain nan s h = absurd h
zero_plain (inf t) s h = absurd h
zero_plain (fin true m e) s h =
    eq→eqb (zero_of_mul m (up e) (up_pos e) (sym (mul-one (m * up e)) ∙ h.1 ∙ zero-mul (down e)))
zero_plain (fin false m e) s h = tt

module _ (a d p : ℕ) (D : 0 < d) (h : p ≤ 2 ^ value_digits) (l : a ≤ p * d) where
  round_plain : (s : Bool) → T (not s) ⊎ (a ≡ 0) → T (plain (round binary64 s a d))
  round_plain false f = fine_plain (round binary64 false a d) (r_fine a d p D h l)
  round_plain true (inl f) = absurd f
  round_plain true (inr e) =
      subst (λ (z : Float). T (plain z))
      (sym (round_same binary64 true a d 0 1 D (omega arith) (mul-one a ∙ e ∙ sym (zero-mul d))))
      (zero_plain (round binary64 true 0 1) true (round_whole binary64 true 0 (omega arith)))

module _ {z : Float} {a d : ℕ} (r : Rounded z a d) (D : 0 < d) where
  pub same_num : num z ≡ num (round binary64 false a d)
  same_num = ap num r.is ∙ (round_size r.sign a d).0

  pub same_den : den z ≡ den (round binary64 false a d)
  same_den = ap den r.is ∙ (round_size r.sign a d).1

  pub rounded_plain : (p : ℕ) → p ≤ 2 ^ value_digits → a ≤ p * d → T (plain z)
  rounded_plain p h l = subst (λ (x : Float). T (plain x)) (sym r.is) (round_plain a d p D h l r.sign r.free)

  pub rounded_most : (p : ℕ) → p ≤ 2 ^ value_digits → a ≤ p * d → num z ≤ p * den z
  rounded_most p h l =
      le_trans (le_of_eq same_num) (le_trans (r_most a d p D h l) (le_of_eq (ap (λ (x : ℕ). p * x) (sym same_den))))

  pub rounded_whole : (p : ℕ) → p ≤ 2 ^ value_digits → a ≡ p * d → num z ≡ p * den z
  rounded_whole p h e = same_num ∙ r_whole a d p D h e ∙ ap (λ (x : ℕ). p * x) (sym same_den)

-- x is not above y, by their values
abbrev pub Below : Float → Float → Type 0
Below x y = num x * den y ≤ num y * den x

pub rounded_below : {z y : Float} {a d b c : ℕ} → Rounded z a d → Rounded y b c → 0 < d → 0 < c
    → (p : ℕ) → p ≤ 2 ^ value_digits → a ≤ p * d → b ≤ p * c → a * c ≤ b * d → Below z y
rounded_below {z} {y} {a} {d} {b} {c} r s D C p h k l g =
    let u = round binary64 false a d in
    let v = round binary64 false b c in
    let w : num u * den v ≤ num v * den u =
    cross u v (r_fine a d p D h k) (r_fine b c p C h l) (round_mono binary64 a d b c D C g) in
    le_trans (le_of_eq (ap (λ (x : ℕ). x * den y) (same_num r D) ∙ ap (λ (x : ℕ). num u * x) (same_den s C)))
    (le_trans w (le_of_eq (sym
    (ap (λ (x : ℕ). x * den z) (same_num s C) ∙ ap (λ (x : ℕ). num v * x) (same_den r D)))))
