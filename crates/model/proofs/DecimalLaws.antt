-- The decimal digits of a number: one, or those of its tenth and one more; how many there are, and that they hold the
-- number. Assumes nothing.
use mathlib.Core.Path.{◌≡◌, refl, sym, ap, subst}
use mathlib.Core.Bool.{Bool, true, false, cond}
use mathlib.Core.List.{List, [], ◌∷◌, ◌++◌}
use Prim.Native.Nat.{ℕ, zero, suc, ◌+◌, ◌*◌, ◌-◌, ◌/◌, ◌%◌, ◌^◌, ◌≤◌, ◌<◌}
use native.Mathlib.Omega.{arith}
use lib.Dec.{ltb}
use lib.ListN.{length, get_or, length-append, get_or-append}
use lib.Seq.{get_or_at}
use borrow.Author.Tests.{lt-ltb, le-ltb, ltb-true, ltb-false}
use Rattle.model.specs.Printed.{glyph, digits, decimal}
use Rattle.day.specs.Words.{value_of, Spells}

-- any two widths that are enough give the same digits
digits_same : (v w n : ℕ) → n < v → n < w → digits v n ≡ digits w n
unfolding digits
digits_same zero w n h g = absurd (omega arith)
digits_same (suc v) zero n h g = absurd (omega arith)
digits_same (suc v) (suc w) n h g = go (ltb n 10) refl (digits_same v w (n / 10))
  where
    go : (t : Bool) → ltb n 10 ≡ t → (n / 10 < v → n / 10 < w → digits v (n / 10) ≡ digits w (n / 10))
        → cond t (glyph n ∷ []) (digits v (n / 10) ++ (glyph (n % 10) ∷ []))
        ≡ cond t (glyph n ∷ []) (digits w (n / 10) ++ (glyph (n % 10) ∷ []))
    go true e same = refl
    go false e same =
        let large : 10 ≤ n = ltb-false n 10 e in
        ap (λ l. l ++ (glyph (n % 10) ∷ [])) (same (omega arith) (omega arith))

pub decimal_one : (n : ℕ) → n < 10 → decimal n ≡ glyph n ∷ []
unfolding decimal digits
decimal_one n h = rw (lt-ltb n 10 h)

pub decimal_more : (n : ℕ) → 10 ≤ n → decimal n ≡ decimal (n / 10) ++ (glyph (n % 10) ∷ [])
unfolding decimal digits
decimal_more n h =
    rw (le-ltb n 10 h)
    (ap (λ l. l ++ (glyph (n % 10) ∷ [])) (digits_same n (suc (n / 10)) (n / 10) (omega arith) (omega arith)))

-- what holds of one digit, and of a number's digits where it holds of those of its tenth, holds of all
by_digits : (P : ℕ → List ℕ → Type 0) → ((n : ℕ) → n < 10 → P n (glyph n ∷ []))
    → ((n : ℕ) → 10 ≤ n → P (n / 10) (decimal (n / 10)) → P n (decimal (n / 10) ++ (glyph (n % 10) ∷ [])))
    → (w n : ℕ) → n < w → P n (decimal n)
by_digits P one more zero n h = absurd (omega arith)
by_digits P one more (suc w) n h = go (ltb n 10) refl (by_digits P one more w (n / 10))
  where
    go : (t : Bool) → ltb n 10 ≡ t → (n / 10 < w → P (n / 10) (decimal (n / 10))) → P n (decimal n)
    go true e less = let small = ltb-true n 10 e in subst (P n) (sym (decimal_one n small)) (one n small)
    go false e less =
        let large = ltb-false n 10 e in
        subst (P n) (sym (decimal_more n large)) (more n large (less (omega arith)))

-- a number below 10 to the power of w + 1 has at most w + 1 digits
pub length_decimal : (w n : ℕ) → n < 10 ^ suc w → length (decimal n) ≤ suc w
length_decimal zero n h = rw (decimal_one n h) (omega arith)
length_decimal (suc w) n h = go (ltb n 10) refl (length_decimal w (n / 10))
  where
    go : (t : Bool) → ltb n 10 ≡ t → (n / 10 < 10 ^ suc w → length (decimal (n / 10)) ≤ suc w)
        → length (decimal n) ≤ suc (suc w)
    go true e less = rw (decimal_one n (ltb-true n 10 e)) (omega arith)
    go false e less =
        rw (decimal_more n (ltb-false n 10 e))
        (omega (arith, length-append (decimal (n / 10)) (glyph (n % 10) ∷ []), less (omega arith)))

value_of_append : (xs ys : List ℕ) (so : ℕ) → value_of so (xs ++ ys) ≡ value_of (value_of so xs) ys
unfolding value_of
value_of_append [] ys so = refl
value_of_append (x ∷ xs) ys so = value_of_append xs ys (10 * so + (x - glyph 0))

-- n in decimal, where the first digit is 0 only for 0
record Led (n : ℕ) (text : List ℕ) : Type 0 where
  spelt : Spells n text
  above : 0 < n → glyph 0 < get_or text 0 0

one_led : (n : ℕ) → n < 10 → Led n (glyph n ∷ [])
unfolding value_of
one_led n h =
    record {
      spelt =
          record {
            holds = omega arith;
            some = omega arith;
            digit = λ i g. let e : i ≡ 0 = omega arith in rw e (omega arith, omega arith);
            first = λ g. absurd (omega arith);
          };
      above = λ g. omega arith;
    }

module _ (n : ℕ) (large : 10 ≤ n) (xs : List ℕ) (less : Led (n / 10) xs) where
  abbrev end : List ℕ
  end = glyph (n % 10) ∷ []

  digit_more : (i : ℕ) → i < length (xs ++ end) → (glyph 0 ≤ get_or (xs ++ end) i 0) × (get_or (xs ++ end) i 0 ≤ 57)
  digit_more i h = go (ltb i (length xs)) refl
    where
      go : (t : Bool) → ltb i (length xs) ≡ t → (glyph 0 ≤ get_or (xs ++ end) i 0) × (get_or (xs ++ end) i 0 ≤ 57)
      go true e = let g = ltb-true i (length xs) e in rw (get_or-append xs end 0 i g) (less.spelt.digit i g)
      go false e =
          let last : length xs ≡ i = omega (arith, ltb-false i (length xs) e, length-append xs end) in
          rw (get_or_at xs (glyph (n % 10)) [] 0 i last) (omega arith, omega arith)

  above_more : glyph 0 < get_or (xs ++ end) 0 0
  above_more = rw (get_or-append xs end 0 0 less.spelt.some) (less.above (omega arith))

  holds_more : value_of 0 (xs ++ end) ≡ n
  unfolding value_of
  holds_more = rw (value_of_append xs end 0, less.spelt.holds) (omega arith)

  more_led : Led n (xs ++ end)
  more_led =
      record {
        spelt =
            record {
              holds = holds_more;
              some = omega (arith, length-append xs end);
              digit = digit_more;
              first = λ g. above_more;
            };
        above = λ g. above_more;
      }

-- the digits of a number hold it, with no leading zero
pub decimal_spells : (n : ℕ) → Spells n (decimal n)
decimal_spells n =
    (by_digits Led one_led (λ m large less. more_led m large (decimal (m / 10)) less) (suc n) n (omega arith)).spelt
