-- The entries bend upwards, but for 2 half-mills: the formula in exact values is convex, and each entry is close to it.
-- Assumes nothing.
use mathlib.Core.Path.{◌≡◌, sym, ap, ◌∙◌}
use mathlib.Core.Bool.{◌&&◌}
use Prim.Native.Nat.{ℕ, ◌+◌, ◌*◌, ◌^◌, ◌≤◌, ◌<◌}
use native.Mathlib.Nat.{le_trans, le_of_eq, mul_comm, mul_assoc, mul-add, add-mul, mul-le-mul_right, lt_of_not-le}
use native.Mathlib.Omega.{arith}
use lib.Dec.{T}
use lib.IntN.{pos}
use lib.Pow.{pow_pos}
use lib.Ieee.{Float, binary64, fits}
use lib.Ieee.Fits.{of_int-fits}
use Rattle.laws.proofs.Tests.{and_to_both}
use Rattle.curve.specs.declared.Kind.{Kind}
use Rattle.curve.specs.declared.Kind.TheVariants.{Flat, Straight, Curved}
use Rattle.curve.specs.declared.Curve.{Curve}
use Rattle.curve.specs.Pattern.{scale}
use Rattle.curve.specs.Cost.{most_energy, record_of, curved_of, accepted, held, Usable, entry_of}
use Rattle.curve.specs.Promises.{Close, formula, parts, apart, exactly}
use Rattle.curve.proofs.PatternLaws.{units_value}
use Rattle.curve.proofs.CostLaws.{good}
use Rattle.curve.proofs.RecordLaws.{record_entry}
use Rattle.curve.proofs.CloseLaws.{curved_close}

-- what the formula has at x + s + t and x beyond that at x + s and x + t
bend : (A B C x s t : ℕ) → formula A B C (x + s + t) + formula A B C x ≡ formula A B C (x + s) + formula A B C
    (x + t) + 2 * (C * (s * t))
bend A B C x s t = simp (mul-add, add-mul, mul_assoc, mul_comm) (omega arith)

-- four entries, each close to its value
four : (p q r o P Q R O l : ℕ) → 0 < l → R + O ≤ P + Q
    → parts * P ≤ parts * (p * l) + apart * l → parts * Q ≤ parts * (q * l) + apart * l
    → parts * (r * l) ≤ parts * R + apart * l → parts * (o * l) ≤ parts * O + apart * l
    → r + o ≤ p + q + 2
four p q r o P Q R O l D h a b c d =
    let n : r + o < p + q + 3 = lt_of_not-le (λ (g : p + q + 3 ≤ r + o).
    let k : (p + q + 3) * l ≤ (r + o) * l = mul-le-mul_right l g in
    let e : (p + q + 3) * l ≡ p * l + q * l + 3 * l =
    add-mul (p + q) 3 l ∙ ap (λ (x : ℕ). x + 3 * l) (add-mul p q l) in
    let f : (r + o) * l ≡ r * l + o * l = add-mul r o l in
    clash (p * l) (q * l) (r * l) (o * l) a b c d (le_trans (le_of_eq (sym e)) (le_trans k (le_of_eq f)))) in
    omega arith
  where
    clash : (p' q' r' o' : ℕ) → parts * P ≤ parts * p' + apart * l → parts * Q ≤ parts * q' + apart * l
        → parts * r' ≤ parts * R + apart * l → parts * o' ≤ parts * O + apart * l → p' + q' + 3 * l ≤ r' + o' → ⊥
    clash p' q' r' o' a b c d e = omega arith

module _ (r : Curve) (h : T (fits binary64 r.a) × T (fits binary64 r.b) × T (fits binary64 r.c))
    (t : T (accepted r)) where
  abbrev A : ℕ
  A = exactly r.a

  abbrev B : ℕ
  B = exactly r.b

  abbrev C : ℕ
  C = exactly r.c

  at : (n : ℕ) → n ≤ most_energy → Close (entry_of (curved_of r) n) (formula A B C n)
  at n l =
      let g = good (curved_of r) t in
      curved_close r.a r.b r.c A B C n
      (record { size = units_value r.a h.0 g.0.nonneg })
      (record { size = units_value r.b h.1 g.1.nonneg })
      (record { size = units_value r.c h.2 g.2.nonneg })
      g l

  curved_bends : (x s u : ℕ) → x + s + u ≤ most_energy
      → entry_of (curved_of r) (x + s) + entry_of (curved_of r) (x + u) ≤ entry_of (curved_of r) x + entry_of (curved_of r)
      (x + s + u) + 2
  curved_bends x s u l =
      let P = at x (omega arith) in
      let Q = at (x + s + u) l in
      let R = at (x + s) (omega arith) in
      let O = at (x + u) (omega arith) in
      let e = bend A B C x s u in
      four (entry_of (curved_of r) x) (entry_of (curved_of r) (x + s + u)) (entry_of (curved_of r) (x + s))
      (entry_of (curved_of r) (x + u))
      (formula A B C x) (formula A B C (x + s + u)) (formula A B C (x + s)) (formula A B C (x + u)) (2 ^ scale)
      (pow_pos scale)
      (convex (formula A B C x) (formula A B C (x + s + u)) (formula A B C (x + s)) (formula A B C (x + u))
      (C * (s * u)) e)
      P.under Q.under R.over O.over
    where
      convex : (p q r o k : ℕ) → q + p ≡ r + o + 2 * k → r + o ≤ p + q
      convex p q r o k e = omega arith

record_fits : (k : Kind) → T (held k)
    → T (fits binary64 (record_of k).a) × T (fits binary64 (record_of k).b) × T (fits binary64 (record_of k).c)
unfolding held
record_fits (Flat a) h = (h, of_int-fits binary64 (pos 0), of_int-fits binary64 (pos 0))
record_fits (Straight a b) h =
    let t = and_to_both (fits binary64 a) (fits binary64 b) h in
    (t.0, t.1, of_int-fits binary64 (pos 0))
record_fits (Curved a b c) h =
    let t = and_to_both (fits binary64 a) (fits binary64 b && fits binary64 c) h in
    let u = and_to_both (fits binary64 b) (fits binary64 c) t.1 in
    (t.0, u.0, u.1)

-- the entries of a kind
pub entries_bend : (k : Kind) (x s t : ℕ) → Usable k → x + s + t ≤ most_energy
    → entry_of k (x + s) + entry_of k (x + t) ≤ entry_of k x + entry_of k (x + s + t) + 2
entries_bend k x s t u l =
    let p = curved_bends (record_of k) (record_fits k u.floats) u.passes x s t l in
    let i = record_entry k x u (omega arith) in
    let j = record_entry k (x + s + t) u l in
    let m = record_entry k (x + s) u (omega arith) in
    let o = record_entry k (x + t) u (omega arith) in
    omega (arith, p, i, j, m, o)

-- and each is close to the formula in the coefficients' exact values
pub entry_close : (a b c : Float) (n : ℕ) → Usable (Curved a b c) → n ≤ most_energy
    → Close (entry_of (Curved a b c) n) (formula (exactly a) (exactly b) (exactly c) n)
entry_close a b c n u l =
    at (record_of (Curved a b c)) (record_fits (Curved a b c) u.floats) u.passes n l
