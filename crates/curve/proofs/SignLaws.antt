-- The sign of a pattern: a float is finite and not negative, minus zero counting as zero, exactly where its field is
-- that of a number and its sign is clear or its size is 0. Assumes nothing.
use mathlib.Core.Path.{◌≡◌, sym, ap, ◌∙◌, subst}
use mathlib.Core.Logic.{◌⊎◌, inl, inr}
use mathlib.Core.Bool.{Bool, true, false, not, cond, true≢false}
use Prim.Native.Nat.{ℕ, zero, suc, ◌+◌, ◌*◌, ◌^◌, ◌<◌}
use native.Mathlib.Nat.{mul-one, zero-mul}
use native.Mathlib.Omega.{arith}
use borrow.Author.Tests.{lt-leb, ne_eqb}
use lib.Dec.{T, leb, eqb, nleb→lt, eqb→eq}
use lib.Pow.{pow_pos}
use lib.Ieee.{Float, nan, inf, fin, binary64, up, down, odd, fits, of_fields, to_bits}
use lib.Ieee.Bits.{of_bits-to_bits}
use lib.Ieee.Fits.{up_pos, down_pos, eq→eqb}
use lib.Ieee.Exact.{HasValue, odd_sign}
use Rattle.curve.specs.Pattern.{fraction_digits, value_digits, sign_place, scale, no_number, field_of, fraction_of}
use Rattle.curve.specs.Pattern.{scaled, units_of}
use Rattle.curve.proofs.PatternLaws.{plain, zero_of_mul, past_top, of_bits_is}

-- ---- to the pattern

signed : (v : Float) (s : Bool) (u : ℕ) → HasValue v s u (2 ^ scale) → T (plain v) → (s ≡ false) ⊎ (u ≡ 0)
signed nan s u h p = absurd h
signed (inf t) s u h p = absurd h
signed (fin false m e) s u h p = inl (sym h.0)
signed (fin true m e) s u h p =
    inr (zero_of_mul u (down e) (down_pos e)
    (sym h.1 ∙ ap (λ (x : ℕ). x * up e * 2 ^ scale) (eqb→eq m 0 p) ∙ ap (λ (x : ℕ). x * 2 ^ scale) (zero-mul (up e))
    ∙ zero-mul (2 ^ scale)))

read_sign : (s : Bool) (x t : ℕ) → T (plain (of_fields binary64 s x t)) → (s ≡ false) ⊎ (scaled x t ≡ 0)
unfolding of_fields
read_sign s zero t p =
    let v = odd value_digits s t 0 scale in
    signed v s t (subst (λ (x : ℕ). HasValue v s x (2 ^ scale)) (mul-one t) (odd_sign value_digits s t 0 scale)) p
read_sign s (suc j) t p =
    let v = odd value_digits s (2 ^ fraction_digits + t) j scale in
    signed v s ((2 ^ fraction_digits + t) * 2 ^ j) (odd_sign value_digits s (2 ^ fraction_digits + t) j scale)
    (subst (λ (w : Float). T (plain w)) (past_top (eqb (suc j) no_number) (eqb t 0) s v p) p)

-- a pattern that is not negative has its sign clear, unless it is minus zero
pub sign_clear : (x : Float) → T (fits binary64 x) → T (plain x)
    → (to_bits binary64 x < 2 ^ sign_place) ⊎ (units_of (to_bits binary64 x) ≡ 0)
unfolding units_of
sign_clear x h p =
    let b = to_bits binary64 x in
    let q : T (plain (of_fields binary64 (leb (2 ^ sign_place) b) (field_of b) (fraction_of b))) =
    subst (λ (w : Float). T (plain w)) (sym (of_bits-to_bits binary64 x h) ∙ of_bits_is b) p in
    elim (read_sign (leb (2 ^ sign_place) b) (field_of b) (fraction_of b) q) [
      | inl e ↦ inl (nleb→lt (2 ^ sign_place) b (subst (λ (t : Bool). T (not t)) (sym e) tt))
      | inr z ↦ inr z
    ]

-- ---- and back

unsigned : (v : Float) (s : Bool) (u : ℕ) → HasValue v s u (2 ^ scale) → (s ≡ false) ⊎ (u ≡ 0) → T (plain v)
unsigned nan s u h c = absurd h
unsigned (inf t) s u h c = absurd h
unsigned (fin false m e) s u h c = tt
unsigned (fin true m e) s u h (inl c) = absurd (true≢false (h.0 ∙ c))
unsigned (fin true m e) s u h (inr c) =
    let n : m * up e * 2 ^ scale ≡ 0 = h.1 ∙ ap (λ (x : ℕ). x * down e) c ∙ zero-mul (down e) in
    eq→eqb (zero_of_mul m (up e) (up_pos e) (zero_of_mul (m * up e) (2 ^ scale) (pow_pos scale) n))

write_sign : (s : Bool) (x t : ℕ) → x < no_number → (s ≡ false) ⊎ (scaled x t ≡ 0) → T (plain (of_fields binary64 s x t))
unfolding of_fields
write_sign s zero t l c =
    let v = odd value_digits s t 0 scale in
    unsigned v s t (subst (λ (x : ℕ). HasValue v s x (2 ^ scale)) (mul-one t) (odd_sign value_digits s t 0 scale)) c
write_sign s (suc j) t l c =
    let v = odd value_digits s (2 ^ fraction_digits + t) j scale in
    let e : eqb (suc j) no_number ≡ false = ne_eqb (suc j) no_number (λ e. omega arith) in
    subst (λ (b : Bool). T (plain (cond b (cond (eqb t 0) (inf s) nan) v))) (sym e)
    (unsigned v s ((2 ^ fraction_digits + t) * 2 ^ j) (odd_sign value_digits s (2 ^ fraction_digits + t) j scale) c)

pub plain_of_bits : (x : Float) → T (fits binary64 x) → field_of (to_bits binary64 x) < no_number
    → (to_bits binary64 x < 2 ^ sign_place) ⊎ (units_of (to_bits binary64 x) ≡ 0) → T (plain x)
unfolding units_of
plain_of_bits x h l c =
    let b = to_bits binary64 x in
    subst (λ (w : Float). T (plain w)) (sym (sym (of_bits-to_bits binary64 x h) ∙ of_bits_is b))
    (write_sign (leb (2 ^ sign_place) b) (field_of b) (fraction_of b) l (elim c [
      | inl k ↦ inl (lt-leb (2 ^ sign_place) b k)
      | inr z ↦ inr z
    ]))
