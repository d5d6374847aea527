-- A value that binary64 holds is rounded to itself. Assumes nothing.
use mathlib.Core.Path.{◌≡◌, sym, ap, ◌∙◌, subst}
use mathlib.Core.Bool.{Bool, true, false, ◌&&◌}
use Prim.Native.Nat.{ℕ, zero, suc, ◌+◌, ◌-◌, ◌*◌, ◌%◌, ◌^◌, ◌≤◌, ◌<◌}
use native.Mathlib.Nat.{le_of_suc-le-suc, lt_irrefl, lt_of_lt_of_le, lt_of_not-le, zero-lt-suc, zero-mul, mul-one}
use native.Mathlib.Nat.{mul_assoc}
use native.Mathlib.Omega.{arith}
use lib.IntN.{ℤ, pos, negsuc}
use lib.Dec.{T, leb, ltb, eqb, leb→le, ltb→lt}
use lib.Pow.{pow-add, pow_pos, pow_mono, pow-lt, shl_lt}
use lib.Ieee.{Float, nan, inf, fin, binary64, up, down, round, fits}
use lib.Ieee.Fits.{down_pos}
use lib.Ieee.Exact.{HasValue, round_exact}
use lib.Ieee.Scale.{round_same}
use lib.Ieee.Positive.{num, den, den_pos, value→cross}
use Rattle.curve.specs.Pattern.{value_digits, scale}
use Rattle.curve.proofs.PatternLaws.{plain}
use Rattle.curve.proofs.RoundLaws.{Rounded, same_num, same_den}

-- finite values lie below 2 ^ top
abbrev top : ℕ
top = 1024

pow_le_back : (i j : ℕ) → 2 ^ i ≤ 2 ^ j → i ≤ j
pow_le_back i j h = le_of_suc-le-suc
    (lt_of_not-le (λ (g : suc j ≤ i). lt_irrefl (2 ^ j) (lt_of_lt_of_le (pow-lt g) h)))

holds : (s : Bool) (m : ℕ) (e : ℤ) → T (fits binary64 (fin s (suc m) e))
    → (suc m < 2 ^ value_digits) × (down e ≤ 2 ^ scale) × (suc m * up e < 2 ^ top * down e)
unfolding fits
holds s m e = go (eqb (suc m % 2) 1) (ltb (suc m) (2 ^ value_digits)) (leb (down e) (2 ^ scale))
    (ltb (suc m * up e) (2 ^ top * down e)) (ltb→lt (suc m) (2 ^ value_digits)) (leb→le (down e) (2 ^ scale))
    (ltb→lt (suc m * up e) (2 ^ top * down e))
  where
    go : (p q r t : Bool) → (T q → suc m < 2 ^ value_digits) → (T r → down e ≤ 2 ^ scale)
        → (T t → suc m * up e < 2 ^ top * down e) → T (p && q && r && t)
        → (suc m < 2 ^ value_digits) × (down e ≤ 2 ^ scale) × (suc m * up e < 2 ^ top * down e)
    go true true true true a b c h = (a tt, b tt, c tt)
    go true true true false a b c h = absurd h
    go true true false t a b c h = absurd h
    go true false r t a b c h = absurd h
    go false q r t a b c h = absurd h

kept_up : (m k : ℕ) → m < 2 ^ value_digits → m * 2 ^ k < 2 ^ top * 1
    → HasValue (round binary64 false (m * 2 ^ k) 1) false (m * 2 ^ k) 1
kept_up m k a c =
    let p : m * 2 ^ k * 2 ^ scale ≡ m * 2 ^ (k + scale) = mul_assoc m (2 ^ k) (2 ^ scale)
    ∙ ap (λ (x : ℕ). m * x) (sym (pow-add 2 k scale)) in
    let b : m * 2 ^ k < 2 ^ top = subst (λ (x : ℕ). m * 2 ^ k < x) (mul-one (2 ^ top)) c in
    round_exact binary64 false (m * 2 ^ k) 1 m (k + scale) (zero-lt-suc 0) a
    (subst (λ (x : ℕ). x < 2 ^ (scale + top)) p (shl_lt top scale b))
    (p ∙ sym (mul-one (m * 2 ^ (k + scale))))

kept_down : (m k : ℕ) → m < 2 ^ value_digits → 2 ^ k ≤ 2 ^ scale
    → HasValue (round binary64 false (m * 1) (2 ^ k)) false (m * 1) (2 ^ k)
kept_down m k a b =
    let l : k ≤ scale = pow_le_back k scale b in
    let j = scale - k in
    let e : j + k ≡ scale = omega arith in
    let r : value_digits + j ≤ scale + top = omega arith in
    round_exact binary64 false (m * 1) (2 ^ k) m j (pow_pos k) a
    (lt_of_lt_of_le (shl_lt value_digits j a) (pow_mono r))
    (ap (λ (x : ℕ). x * 2 ^ scale) (mul-one m) ∙ ap (λ (x : ℕ). m * x) (ap (λ (x : ℕ). 2 ^ x) (sym e) ∙ pow-add 2 j k)
    ∙ sym (mul_assoc m (2 ^ j) (2 ^ k)))

held_exact : (b : Float) → T (fits binary64 b) → T (plain b)
    → HasValue (round binary64 false (num b) (den b)) false (num b) (den b)
held_exact nan h p = absurd p
held_exact (inf s) h p = absurd p
held_exact (fin s zero e) h p =
    let u : zero * up e ≡ 0 = zero-mul (up e) in
    round_exact binary64 false (zero * up e) (down e) 0 0 (down_pos e) (pow_pos value_digits) (pow_pos (scale + top))
    (ap (λ (x : ℕ). x * 2 ^ scale) u ∙ zero-mul (2 ^ scale) ∙ sym (zero-mul (down e)))
held_exact (fin s (suc m) (pos k)) h p = let f = holds s m (pos k) h in kept_up (suc m) k f.0 f.2
held_exact (fin s (suc m) (negsuc k)) h p = let f = holds s m (negsuc k) h in kept_down (suc m) (suc k) f.0 f.1

-- z is b's value rounded, so it is b's value
pub rounded_kept : {z : Float} {a d : ℕ} → Rounded z a d → 0 < d → (b : Float) → T (fits binary64 b) → T (plain b)
    → a * den b ≡ num b * d
    → num z * den b ≡ num b * den z
rounded_kept {z} {a} {d} r D b h p e =
    let w = round binary64 false (num b) (den b) in
    let same : round binary64 false a d ≡ w = round_same binary64 false a d (num b) (den b) D (den_pos b) e in
    ap (λ (x : ℕ). x * den b) (same_num r D ∙ ap num same)
    ∙ value→cross w (num b) (den b) (held_exact b h p)
    ∙ ap (λ (x : ℕ). num b * x) (sym (same_den r D ∙ ap den same))
