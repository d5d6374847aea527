-- A pattern's value and its nearest whole number, by the digits that code shifts; and that a float's pattern has the
-- float's value. Assumes nothing.
use mathlib.Core.Path.{◌≡◌, refl, sym, ap, ◌∙◌, subst}
use mathlib.Core.Bool.{Bool, true, false, not, ◌||◌, cond}
use Prim.Native.Nat.{ℕ, zero, suc, ◌+◌, ◌-◌, ◌*◌, ◌^◌, ◌≤◌, ◌<◌}
use native.Mathlib.Nat.{le_trans, le_of_eq, lt_of_lt_of_le, lt_of_not-le, lt_irrefl, mod-lt, mul-one, mul_assoc}
use native.Mathlib.Nat.{mul_right_comm, mul-le-mul_right, zero-mul, mul-le-mul, eq_of_mul-eq-mul_right}
use native.Mathlib.Nat.{mul-lt-mul_of_pos_right, le-add_right}
use native.Mathlib.Omega.{arith}
use lib.Dec.{T, leb, eqb, lit≤}
use lib.Pow.{pow-add, pow_pos, pow_mono, shl_lt}
use lib.Ieee.{Float, nan, inf, fin, binary64, odd, fits, of_fields, of_bits, to_bits}
use lib.Ieee.Bits.{of_bits-to_bits}
use lib.Ieee.Digits.{Equals, odd_val}
use lib.Ieee.Nearest.{closest, closest_same}
use lib.Ieee.Positive.{num, den, den_pos}
use Rattle.curve.specs.Pattern.{fraction_digits, value_digits, sign_place, scale, field_of, fraction_of, scaled}
use Rattle.curve.specs.Pattern.{no_number, units_of, whole_of}
use Rattle.curve.proofs.NearestLaws.{closest_small}

-- ---- the nearest whole number by shifted digits

with_lead : (t : ℕ) → t < 2 ^ fraction_digits → 2 ^ fraction_digits + t < 2 ^ value_digits
with_lead t h = omega arith

-- below a half
small : (x t : ℕ) → x < scale - fraction_digits → t < 2 ^ fraction_digits → closest (scaled x t) (2 ^ scale) ≡ 0
small zero t h l =
    closest_small t (2 ^ scale)
    (let r : fraction_digits + 1 ≤ scale = lit≤ tt in lt_of_lt_of_le (shl_lt fraction_digits 1 l) (pow_mono r))
small (suc j) t h l =
    closest_small ((2 ^ fraction_digits + t) * 2 ^ j) (2 ^ scale)
    (lt_of_lt_of_le (shl_lt (value_digits + j) 1 (shl_lt value_digits j (with_lead t l))) (pow_mono (room j h)))
  where
    room : (j : ℕ) → suc j < scale - fraction_digits → value_digits + j + 1 ≤ scale
    room j h = omega arith

pub whole_small : (b : ℕ) → field_of b < scale - fraction_digits → whole_of b ≡ 0
unfolding whole_of units_of
whole_small b h = small (field_of b) (fraction_of b) h (mod-lt b (pow_pos fraction_digits))

-- from a half up, the digits under a leading one are divided by a power of two
divided : (x t : ℕ) → scale - fraction_digits ≤ x → x ≤ scale
    → closest (scaled x t) (2 ^ scale) ≡ closest (2 ^ fraction_digits + t) (2 ^ (scale + 1 - x))
divided zero t h k = absurd (omega arith)
divided (suc j) t h k =
    let q = 2 ^ fraction_digits + t in
    let s = scale + 1 - suc j in
    let e : j + s ≡ scale = omega arith in
    closest_same (q * 2 ^ j) (2 ^ scale) q (2 ^ s) (pow_pos scale) (pow_pos s)
    (mul_assoc q (2 ^ j) (2 ^ s) ∙ ap (λ (x : ℕ). q * x) (sym (pow-add 2 j s) ∙ ap (λ (x : ℕ). 2 ^ x) e))

pub whole_divided : (b : ℕ) → scale - fraction_digits ≤ field_of b → field_of b ≤ scale
    → whole_of b ≡ closest (2 ^ fraction_digits + fraction_of b) (2 ^ (scale + 1 - field_of b))
unfolding whole_of units_of
whole_divided b h k = divided (field_of b) (fraction_of b) h k

-- ---- the pattern of a finite float

-- finite, and not negative; minus zero counts as zero
abbrev pub plain : Float → Bool
plain nan = false
plain (inf s) = false
plain (fin s m e) = not s || eqb m 0

-- a product that is 0, of a factor that is not
pub zero_of_mul : (m u : ℕ) → 0 < u → m * u ≡ 0 → m ≡ 0
zero_of_mul m u U e = eq_of_mul-eq-mul_right u U m 0 (e ∙ sym (zero-mul u))

of_equals : (v : Float) (a c : ℕ) → Equals v a c → num v * c ≡ a * den v
of_equals nan a c h = absurd h
of_equals (inf s) a c h = absurd h
of_equals (fin s m e) a c h = h

pub past_top : (a b s : Bool) (v : Float) → T (plain (cond a (cond b (inf s) nan) v))
    → cond a (cond b (inf s) nan) v ≡ v
past_top true true s v p = absurd p
past_top true false s v p = absurd p
past_top false b s v p = refl

read : (s : Bool) (x t : ℕ) → T (plain (of_fields binary64 s x t))
    → num (of_fields binary64 s x t) * 2 ^ scale ≡ scaled x t * den (of_fields binary64 s x t)
unfolding of_fields
read s zero t p =
    let v = odd value_digits s t 0 scale in
    of_equals v (t * 1) (2 ^ scale) (odd_val value_digits s t 0 scale) ∙ ap (λ (x : ℕ). x * den v) (mul-one t)
read s (suc j) t p =
    let q = 2 ^ fraction_digits + t in
    let v = odd value_digits s q j scale in
    subst (λ (w : Float). num w * 2 ^ scale ≡ (2 ^ fraction_digits + t) * 2 ^ j * den w)
    (sym (past_top (eqb (suc j) no_number) (eqb t 0) s v p))
    (of_equals v (q * 2 ^ j) (2 ^ scale) (odd_val value_digits s q j scale))

pub of_bits_is : (b : ℕ) → of_bits binary64 b ≡ of_fields binary64 (leb (2 ^ sign_place) b) (field_of b) (fraction_of b)
unfolding of_bits
of_bits_is b = refl

read_bits : (b : ℕ) → T (plain (of_bits binary64 b))
    → num (of_bits binary64 b) * 2 ^ scale ≡ units_of b * den (of_bits binary64 b)
unfolding units_of
read_bits b p =
    subst (λ (w : Float). num w * 2 ^ scale ≡ scaled (field_of b) (fraction_of b) * den w) (sym (of_bits_is b))
    (read (leb (2 ^ sign_place) b) (field_of b) (fraction_of b) (subst (λ (w : Float). T (plain w)) (of_bits_is b) p))

module _ (x : Float) (held : T (fits binary64 x)) (p : T (plain x)) where
  -- the value that its bits give is the float's
  pub units_value : num x * 2 ^ scale ≡ units_of (to_bits binary64 x) * den x
  units_value =
      subst (λ (w : Float). num w * 2 ^ scale ≡ units_of (to_bits binary64 x) * den w) (of_bits-to_bits binary64 x held)
      (read_bits (to_bits binary64 x) (subst (λ (w : Float). T (plain w)) (sym (of_bits-to_bits binary64 x held)) p))

  pub whole_value : whole_of (to_bits binary64 x) ≡ closest (num x) (den x)
  unfolding whole_of
  whole_value = closest_same (units_of (to_bits binary64 x)) (2 ^ scale) (num x) (den x) (pow_pos scale) (den_pos x)
      (sym units_value)

  -- a value below 2 ^ fraction_digits has a field of scale at most
  pub field_below : num x < 2 ^ fraction_digits * den x → field_of (to_bits binary64 x) ≤ scale
  unfolding units_of
  field_below h = go (field_of (to_bits binary64 x)) (fraction_of (to_bits binary64 x)) units_value
    where
      go : (k t : ℕ) → num x * 2 ^ scale ≡ scaled k t * den x → k ≤ scale
      go zero t e = lit≤ tt
      go (suc j) t e = lt_of_not-le
          (λ (g : scale ≤ j). lt_irrefl (num x * 2 ^ scale)
          (lt_of_lt_of_le (mul-lt-mul_of_pos_right h (pow_pos scale)) (le_trans (big j t g) (le_of_eq (sym e)))))
        where
          big : (j t : ℕ) → scale ≤ j
              → 2 ^ fraction_digits * den x * 2 ^ scale ≤ (2 ^ fraction_digits + t) * 2 ^ j * den x
          big j t g = le_trans (le_of_eq (mul_right_comm (2 ^ fraction_digits) (den x) (2 ^ scale)))
              (mul-le-mul_right (den x) (mul-le-mul (le-add_right (2 ^ fraction_digits) t) (pow_mono g)))
