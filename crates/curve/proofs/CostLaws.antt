-- The costs of an accepted curve at energies up to the most: amounts of at most the most cost, which never fall as the
-- energy grows. Assumes nothing.
use mathlib.Core.Path.{◌≡◌, refl, sym}
use mathlib.Core.Logic.{inl}
use mathlib.Core.Bool.{false, not, ◌&&◌}
use Prim.Native.Nat.{ℕ, ◌+◌, ◌*◌, ◌^◌, ◌≤◌, ◌<◌}
use native.Mathlib.Nat.{le_refl, le_trans, le_of_eq, lt_of_le_of_lt, mul-one}
use native.Mathlib.Nat.{mul-le-mul_right, mul-lt-mul_of_pos_right, zero-lt-suc}
use native.Mathlib.Omega.{arith}
use lib.Dec.{T, lit≤, lit<}
use lib.Ieee.{Float, nan, inf, fin, binary64, add, mul, of_int, fits, is_nan}
use lib.Ieee.Fits.{add-fits}
use lib.Ieee.Nearest.{closest, closest_mono}
use lib.Ieee.Positive.{num, den, den_pos}
use Rattle.laws.proofs.Tests.{and_to_both}
use Rattle.curve.specs.declared.Kind.{Kind}
use Rattle.curve.specs.declared.Kind.TheVariants.{Flat, Straight, Curved}
use Rattle.curve.specs.declared.Curve.{Curve}
use Rattle.curve.specs.Pattern.{fraction_digits, value_digits, scale, field_of}
use Rattle.curve.specs.Cost.{most_energy, most_coefficient, most_cost, whole, allowed, record_of, accepted, held}
use Rattle.curve.specs.Cost.{cost_of, pattern_of, entry_of}
use Rattle.curve.proofs.NearestLaws.{closest_whole}
use Rattle.curve.proofs.PatternLaws.{plain, whole_value, field_below}
use Rattle.curve.proofs.RoundLaws.{Rounded, Below, rounded_plain, rounded_most, rounded_whole, rounded_below}
use Rattle.curve.proofs.AmountLaws.{Amount, Whole, mul_amount, add_amount, mul_below, add_below}
use Rattle.curve.proofs.AllowedLaws.{allowed_amount}

-- ---- a whole number as a float

whole_rounded : (n : ℕ) → Rounded (whole n) n 1
unfolding of_int
whole_rounded n = record { sign = false; is = refl; free = inl tt }

one_pos : 0 < 1
one_pos = zero-lt-suc 0

pub whole_whole : (n : ℕ) → n ≤ 2 ^ value_digits → Whole (whole n) n
whole_whole n h = record {
  nonneg = rounded_plain (whole_rounded n) one_pos n h (le_of_eq (sym (mul-one n)));
  exact = rounded_whole (whole_rounded n) one_pos n h (sym (mul-one n));
}

pub whole_amount : (n : ℕ) → n ≤ most_energy → Amount (whole n) most_energy
whole_amount n h =
    let l : most_energy ≤ 2 ^ value_digits = lit≤ tt in
    let m : n ≤ most_energy * 1 = omega arith in
    record {
      nonneg = rounded_plain (whole_rounded n) one_pos most_energy l m;
      most =
          rounded_most (whole_rounded n) one_pos most_energy l m;
    }

whole_below : (m n : ℕ) → m ≤ n → n ≤ most_energy → Below (whole m) (whole n)
whole_below m n h k =
    let l : most_energy ≤ 2 ^ value_digits = lit≤ tt in
    rounded_below (whole_rounded m) (whole_rounded n) one_pos one_pos most_energy l (omega arith) (omega arith)
    (omega arith)

-- ---- the costs of an accepted kind

-- the coefficients, each an amount of 1,000,000 at most
abbrev pub Good : Kind → Type 0
Good (Flat a) = Amount a most_coefficient
Good (Straight a b) = Amount a most_coefficient × Amount b most_coefficient
Good (Curved a b c) = Amount a most_coefficient × Amount b most_coefficient × Amount c most_coefficient

each : (r : Curve) → T (accepted r)
    → Amount r.a most_coefficient × Amount r.b most_coefficient × Amount r.c most_coefficient
unfolding accepted
each r t =
    let s = and_to_both (allowed r.a) (allowed r.b && allowed r.c) t in
    let u = and_to_both (allowed r.b) (allowed r.c) s.1 in
    (allowed_amount r.a s.0, allowed_amount r.b u.0, allowed_amount r.c u.1)

pub good : (k : Kind) → T (accepted (record_of k)) → Good k
good (Flat a) t = (each (record_of (Flat a)) t).0
good (Straight a b) t = let s = each (record_of (Straight a b)) t in (s.0, s.1)
good (Curved a b c) t = each (record_of (Curved a b c)) t

wider : {x : Float} {B : ℕ} (C : ℕ) → B ≤ C → Amount x B → Amount x C
wider {x} C h p = record { nonneg = p.nonneg; most = le_trans p.most (mul-le-mul_right (den x) h) }

-- c * n + b, at the most
abbrev pub most2 : ℕ
most2 = most_coefficient * most_energy + most_coefficient

-- the steps of (c * n + b) * n + a, with their bounds
module _ {c : Float} (C : Amount c most_coefficient) (n : ℕ) (h : n ≤ most_energy) where
  pub step1 : Amount (mul binary64 c (whole n)) (most_coefficient * most_energy)
  step1 = mul_amount C (whole_amount n h) (lit≤ tt)

  pub step2 : {b : Float} → Amount b most_coefficient → Amount (add binary64 (mul binary64 c (whole n)) b) most2
  step2 B = add_amount step1 B (lit≤ tt)

  pub step3 : {b : Float} → Amount b most_coefficient
      → Amount (mul binary64 (add binary64 (mul binary64 c (whole n)) b) (whole n)) (most2 * most_energy)
  step3 B = mul_amount (step2 B) (whole_amount n h) (lit≤ tt)

-- the cost is an amount
pub cost_amount : (k : Kind) (n : ℕ) → Good k → n ≤ most_energy → Amount (cost_of k n) most_cost
unfolding cost_of
cost_amount (Flat a) n g h = wider most_cost (lit≤ tt) g
cost_amount (Straight a b) n g h = wider most_cost (lit≤ tt) (step2 g.1 n h g.0)
cost_amount (Curved a b c) n g h = add_amount (step3 g.2 n h g.1) g.0 (lit≤ tt)

pub self : (x : Float) → Below x x
self x = le_refl (num x * den x)

-- kinds of one sort, each coefficient of the first not above the second's
pub data Under : Kind → Kind → Type 0 where
  flat : {a a' : Float} → Below a a' → Under (Flat a) (Flat a')
  straight : {a a' b b' : Float} → Below a a' → Below b b' → Under (Straight a b) (Straight a' b')
  curved : {a a' b b' c c' : Float} → Below a a' → Below b b' → Below c c' → Under (Curved a b c) (Curved a' b' c')

pub under_self : (k : Kind) → Under k k
under_self (Flat a) = flat (self a)
under_self (Straight a b) = straight (self a) (self b)
under_self (Curved a b c) = curved (self a) (self b) (self c)

-- the cost grows with each coefficient and with n
pub cost_below : {k l : Kind} (m n : ℕ) → Good k → Good l → Under k l → m ≤ n → n ≤ most_energy
    → Below (cost_of k m) (cost_of l n)
unfolding cost_of
cost_below m n g g' (flat A) h l = A
cost_below m n g g' (straight A B) h l =
    let M : m ≤ most_energy = omega arith in
    add_below (step1 g.1 m M) (step1 g'.1 n l) g.0 g'.0
    (mul_below g.1 g'.1 (whole_amount m M) (whole_amount n l) B (whole_below m n h l) (lit≤ tt)) A (lit≤ tt)
cost_below m n g g' (curved A B C) h l =
    let M : m ≤ most_energy = omega arith in
    let w = whole_below m n h l in
    let one = mul_below g.2 g'.2 (whole_amount m M) (whole_amount n l) C w (lit≤ tt) in
    let two = add_below (step1 g.2 m M) (step1 g'.2 n l) g.1 g'.1 one B (lit≤ tt) in
    let three = mul_below (step2 g.2 m M g.1) (step2 g'.2 n l g'.1) (whole_amount m M)
    (whole_amount n l) two w (lit≤ tt) in
    add_below (step3 g.2 m M g.1) (step3 g'.2 n l g'.1) g.0 g'.0 three A (lit≤ tt)

-- ---- its pattern

pub curved_fits : (a b c : Float) (n : ℕ) → T (fits binary64 (cost_of (Curved a b c) n))
unfolding cost_of
curved_fits a b c n = add-fits binary64 (mul binary64 (add binary64 (mul binary64 c (whole n)) b) (whole n)) a

pub cost_fits : (k : Kind) (n : ℕ) → T (held k) → T (fits binary64 (cost_of k n))
unfolding cost_of held
cost_fits (Flat a) n h = h
cost_fits (Straight a b) n h = add-fits binary64 (mul binary64 b (whole n)) a
cost_fits (Curved a b c) n h = curved_fits a b c n

number : (x : Float) → T (plain x) → T (not (is_nan x))
unfolding is_nan
number nan p = absurd p
number (inf s) p = tt
number (fin s m e) p = tt

module _ (k : Kind) (n : ℕ) (F : T (fits binary64 (cost_of k n))) (g : Good k) (l : n ≤ most_energy) where
  pub entry_closest : entry_of k n ≡ closest (num (cost_of k n)) (den (cost_of k n))
  unfolding entry_of
  entry_closest = whole_value (cost_of k n) F (cost_amount k n g l).nonneg

  pub cost_number : T (not (is_nan (cost_of k n)))
  cost_number = number (cost_of k n) (cost_amount k n g l).nonneg

  pub cost_field : field_of (pattern_of k n) ≤ scale
  cost_field =
      let x = cost_of k n in
      let s : most_cost < 2 ^ fraction_digits = lit< tt in
      field_below x F (cost_amount k n g l).nonneg
      (lt_of_le_of_lt (cost_amount k n g l).most (mul-lt-mul_of_pos_right s (den_pos x)))

  pub entry_most : entry_of k n ≤ most_cost
  entry_most =
      let x = cost_of k n in
      le_trans (le_of_eq entry_closest)
      (le_trans (closest_mono (num x) (den x) (most_cost * 1) 1 (den_pos x) one_pos
      (le_trans (le_of_eq (mul-one (num x))) (cost_amount k n g l).most))
      (le_of_eq (closest_whole most_cost 1 one_pos)))

-- the entries grow with each coefficient and with n
pub entry_mono : {k l : Kind} (m n : ℕ) → T (held k) → T (held l) → Good k → Good l → Under k l → m ≤ n → n ≤ most_energy
    → entry_of k m ≤ entry_of l n
entry_mono {k} {l} m n h h' g g' u i j =
    let M : m ≤ most_energy = omega arith in
    let x = cost_of k m in
    let y = cost_of l n in
    le_trans (le_of_eq (entry_closest k m (cost_fits k m h) g M))
    (le_trans (closest_mono (num x) (den x) (num y) (den y) (den_pos x) (den_pos y) (cost_below m n g g' u i j))
    (le_of_eq (sym (entry_closest l n (cost_fits l n h') g' j))))
