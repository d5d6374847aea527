-- What holds of a cost curve and of the table of its costs (request F-7), at energies n from 0 to 800; one field for
-- each promise, and proofs/Promises proves them all. T b says that the test b passes; the numbers are those of the
-- request. Definitions only. Assumes nothing.
use Rattle.std.specs.Prelude.{◌≡◌, ◌↔◌, ◌⊎◌, not, List, ℕ, ◌+◌, ◌*◌, ◌%◌, ◌^◌, ◌≤◌, ◌<◌, T, ℤ, pos, length, get_or}
use Rattle.std.specs.Prelude.{drop, Float, Some, None}
use Rattle.std.specs.Float.{binary64}
use Rattle.std.specs.Float.Ieee.{eq, fits, of_bits, to_bits}
use Rattle.curve.specs.declared.Kind.{Kind}
use Rattle.curve.specs.declared.Kind.TheVariants.{Flat, Straight, Curved}
use Rattle.curve.specs.declared.Curve.{Curve}
use Rattle.curve.specs.Pattern.{scale, field_of, units_of}
use Rattle.curve.specs.Cost.{whole, allowed, record_of, curved_of, accepted, Usable, pattern_of, entry_of, table_of}
use Rattle.curve.specs.Cost.{tabled, answer_of, lent_after, supplied_of}
use Rattle.curve.specs.Cost.{done, refused}

-- b is the pattern of a number, finite and not below zero; minus zero counts as zero
pub record Number (b : ℕ) : Type 0 where
  pub finite : field_of b < 2047
  pub sign : (b < 2 ^ 63) ⊎ (units_of b ≡ 0)

-- the whole number t lies within half of a / d
pub record Half (t a d : ℕ) : Type 0 where
  pub over : 2 * (t * d) ≤ 2 * a + d
  pub under : 2 * a ≤ 2 * (t * d) + d

-- and half away from it
abbrev pub Tied : ℕ → ℕ → ℕ → Type 0
Tied t a d = (2 * (t * d) ≡ 2 * a + d) ⊎ (2 * a ≡ 2 * (t * d) + d)

-- the formula in whole numbers, or in units for coefficients of so many units
abbrev pub formula : ℕ → ℕ → ℕ → ℕ → ℕ
formula A B C n = (C * n + B) * n + A

-- an entry lies within apart / parts of the formula in exact values: the roundings on the way add 1 / parts to a half
abbrev pub parts : ℕ
parts = 4096

abbrev pub apart : ℕ
apart = 2049

-- the whole number t lies that close to E units
pub record Close (t E : ℕ) : Type 0 where
  pub over : parts * (t * 2 ^ scale) ≤ parts * E + apart * 2 ^ scale
  pub under : parts * E ≤ parts * (t * 2 ^ scale) + apart * 2 ^ scale

-- the units of a coefficient, exact
abbrev pub exactly : Float → ℕ
exactly x = units_of (to_bits binary64 x)

-- a coefficient that is the whole number p, 1,000,000 at most; minus zero is 0
pub record IsWhole (x : Float) (p : ℕ) : Type 0 where
  pub float : T (fits binary64 x)
  pub equal : T (eq x (whole p))
  pub small : p ≤ 1000000

-- the same kind, each coefficient equal as floats are compared, so that minus zero equals zero
abbrev pub Alike : Kind → Kind → Type 0
Alike (Flat a) (Flat a') = T (eq a a')
Alike (Straight a b) (Straight a' b') = T (eq a a') × T (eq b b')
Alike (Curved a b c) (Curved a' b' c') = T (eq a a') × T (eq b b') × T (eq c c')
Alike (Flat a) (Straight a' b') = ⊥
Alike (Flat a) (Curved a' b' c') = ⊥
Alike (Straight a b) (Flat a') = ⊥
Alike (Straight a b) (Curved a' b' c') = ⊥
Alike (Curved a b c) (Flat a') = ⊥
Alike (Curved a b c) (Straight a' b') = ⊥

-- the number that tells a kind
abbrev pub kind_number : Kind → ℕ
kind_number (Flat a) = 0
kind_number (Straight a b) = 1
kind_number (Curved a b c) = 2

-- a record holds the coefficients of a kind, unused ones 0; minus zero is 0
abbrev pub Holds : Kind → Curve → Type 0
Holds (Flat a) r = (r.a ≡ a) × T (eq r.b (whole 0)) × T (eq r.c (whole 0))
Holds (Straight a b) r = (r.a ≡ a) × (r.b ≡ b) × T (eq r.c (whole 0))
Holds (Curved a b c) r = (r.a ≡ a) × (r.b ≡ b) × (r.c ≡ c)

pub record Promises : Type 0 where
  -- ---- refusal 16
  -- a coefficient passes exactly where its bits are those of a number from 0 to 1,000,000
  pub coefficient : (x : Float) → T (fits binary64 x)
      → T (allowed x) ↔ (Number (to_bits binary64 x) × (exactly x ≤ 1000000 * 2 ^ scale))
  -- a record passes exactly where all three coefficients do
  pub passes : (r : Curve) → T (accepted r) ↔ (T (allowed r.a) × T (allowed r.b) × T (allowed r.c))
  -- the kind that a number tells is given where the record holds its coefficients
  pub given : (k : Kind) (r : Curve) → Holds k r → supplied_of (kind_number k) r ≡ Some k
  -- none is where an unused coefficient is not 0, or for another number
  pub unused : (r : Curve) → T (not (eq r.c (whole 0)))
      → (supplied_of 0 r ≡ None) × (supplied_of 1 r ≡ None)
  pub unused_flat : (r : Curve) → T (not (eq r.b (whole 0))) → supplied_of 0 r ≡ None
  pub unknown : (n : ℕ) (r : Curve) → 2 < n → supplied_of n r ≡ None
  -- ---- the table in lent numbers
  -- 16 first, then 10 for less than 801 numbers, both of which leave them; else the table is filled
  pub sixteen : (k : Kind) (lent : List ℤ) → T (not (accepted (record_of k)))
      → (answer_of k lent ≡ refused 16) × (lent_after k lent ≡ lent)
  pub ten : (k : Kind) (lent : List ℤ) → T (accepted (record_of k)) → length lent < 801
      → (answer_of k lent ≡ refused 10) × (lent_after k lent ≡ lent)
  pub filled : (k : Kind) (lent : List ℤ) → T (accepted (record_of k)) → 801 ≤ length lent
      → (answer_of k lent ≡ done) × (lent_after k lent ≡ tabled k lent)
  -- it has 801 entries; an entry stands at its place, and the numbers after the table are as lent
  pub entries : (k : Kind) → length (table_of k) ≡ 801
  pub stands : (k : Kind) (lent : List ℤ) (n : ℕ) → n ≤ 800 → get_or (tabled k lent) n (pos 0) ≡ pos (entry_of k n)
  pub beyond : (k : Kind) (lent : List ℤ) → drop 801 (tabled k lent) ≡ drop 801 lent
  -- ---- the entries
  -- they never fall as n grows
  pub never_falls : (k : Kind) (m n : ℕ) → Usable k → m ≤ n → n ≤ 800 → entry_of k m ≤ entry_of k n
  -- the cost is a finite float, and not below zero
  pub finite : (k : Kind) (n : ℕ) → Usable k → n ≤ 800 → Number (pattern_of k n)
  -- an entry lies within half of the cost's exact value as its bits give it
  pub within_half : (k : Kind) (n : ℕ) → Half (entry_of k n) (units_of (pattern_of k n)) (2 ^ scale)
  -- and where two whole numbers are as near, it is the even one
  pub tie_even : (k : Kind) (n : ℕ) → Tied (entry_of k n) (units_of (pattern_of k n)) (2 ^ scale) → entry_of k n % 2 ≡ 0
  -- the order of the operations, each rounded once: with 48890.2, 2.07 and 0.87 at 649, where other orders, fused
  -- operations and the exact value all give 416,678
  pub in_order : entry_of (Curved (of_bits binary64 4676952231506241126) (of_bits binary64 4611843644414345871)
      (of_bits binary64 4606011482896901079)) 649 ≡ 416679
  -- with whole coefficients an entry is the formula in whole numbers
  pub flat_whole : (a : Float) (A n : ℕ) → IsWhole a A → n ≤ 800 → entry_of (Flat a) n ≡ A
  pub straight_whole : (a b : Float) (A B n : ℕ) → IsWhole a A → IsWhole b B → n ≤ 800
      → entry_of (Straight a b) n ≡ B * n + A
  pub curved_whole : (a b c : Float) (A B C n : ℕ) → IsWhole a A → IsWhole b B → IsWhole c C → n ≤ 800
      → entry_of (Curved a b c) n ≡ (C * n + B) * n + A
  -- the record of a kind, unused coefficients 0, has the kind's entries
  pub by_record : (k : Kind) (n : ℕ) → Usable k → n ≤ 800 → entry_of (curved_of (record_of k)) n ≡ entry_of k n
  -- minus zero counts as zero
  pub alike : (k l : Kind) (n : ℕ) → Usable k → Usable l → Alike k l → n ≤ 800 → entry_of k n ≡ entry_of l n
  -- all roundings together: an entry lies within 2049 / 4096 of the formula in exact values
  pub close : (a b c : Float) (n : ℕ) → Usable (Curved a b c) → n ≤ 800
      → Close (entry_of (Curved a b c) n) (formula (exactly a) (exactly b) (exactly c) n)
  -- the entries bend upwards, but for 2 half-mills
  pub bends : (k : Kind) (x s t : ℕ) → Usable k → x + s + t ≤ 800
      → entry_of k (x + s) + entry_of k (x + t) ≤ entry_of k x + entry_of k (x + s + t) + 2
  -- an entry is 640,801,000,000 at most
  pub most : (k : Kind) (n : ℕ) → Usable k → n ≤ 800 → entry_of k n ≤ 640801000000
