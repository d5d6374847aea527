-- The record of a kind, taken through (c * n + b) * n + a with its unused coefficients 0, has the kind's own entries.
-- Assumes nothing.
use mathlib.Core.Path.{◌≡◌, sym, ap, ◌∙◌, subst}
use Prim.Native.Nat.{ℕ, ◌+◌, ◌*◌, ◌≤◌}
use native.Mathlib.Nat.{le_antisymm, le_of_eq, zero-mul, zero-add, mul_assoc, mul-pos}
use native.Mathlib.Omega.{arith}
use lib.Dec.{T, lit≤}
use lib.Ieee.{Float, binary64, add, mul, fits}
use lib.Ieee.Fits.{and_r}
use lib.Ieee.Nearest.{closest_same}
use lib.Ieee.Positive.{num, den, den_pos}
use Rattle.curve.specs.declared.Kind.{Kind}
use Rattle.curve.specs.declared.Kind.TheVariants.{Flat, Straight, Curved}
use Rattle.curve.specs.Cost.{most_energy, whole, record_of, curved_of, held, Usable, cost_of, entry_of}
use Rattle.curve.proofs.PatternLaws.{plain}
use Rattle.curve.proofs.RoundLaws.{Below}
use Rattle.curve.proofs.KeptLaws.{rounded_kept}
use Rattle.curve.proofs.SumLaws.{add_rounded}
use Rattle.curve.proofs.AmountLaws.{Amount, Whole, mul_amount, mul_below, add_below, mul_whole, add_whole}
use Rattle.curve.proofs.CostLaws.{whole_whole, whole_amount, good, most2, step2, step3, self, cost_fits}
use Rattle.curve.proofs.CostLaws.{curved_fits, entry_closest}

-- of the same value
abbrev Same : Float → Float → Type 0
Same x y = Below x y × Below y x

-- a zero and b make b
zero_plus : {z : Float} (b : Float) → Whole z 0 → T (plain b) → T (fits binary64 b) → Same (add binary64 z b) b
zero_plus {z} b w p h =
    let s = add binary64 z b in
    let none : num z ≡ 0 = w.exact ∙ zero-mul (den z) in
    let e : (num z * den b + num b * den z) * den b ≡ num b * (den z * den b) =
    ap (λ (x : ℕ). (x * den b + num b * den z) * den b) none
    ∙ ap (λ (x : ℕ). (x + num b * den z) * den b) (zero-mul (den b))
    ∙ ap (λ (x : ℕ). x * den b) (zero-add (num b * den z))
    ∙ mul_assoc (num b) (den z) (den b) in
    let k : num s * den b ≡ num b * den s =
    rounded_kept (add_rounded z b w.nonneg p) (mul-pos (den_pos z) (den_pos b)) b h p e in
    (le_of_eq k, le_of_eq (sym k))

nought : Whole (whole 0) 0
nought = whole_whole 0 (omega arith)

-- 0 * n
none : (n : ℕ) → n ≤ most_energy → Whole (mul binary64 (whole 0) (whole n)) 0
none n h =
    let w : Whole (whole n) n = whole_whole n (omega arith) in
    let e : 0 * n ≡ 0 = zero-mul n in
    subst (λ (p : ℕ). Whole (mul binary64 (whole 0) (whole n)) p) e (mul_whole nought w (omega arith))

same_cost : (k : Kind) (n : ℕ) → Usable k → n ≤ most_energy
    → Same (cost_of (curved_of (record_of k)) n) (cost_of k n)
unfolding cost_of held
same_cost (Flat a) n u l =
    let w : Whole (whole n) n = whole_whole n (omega arith) in
    let y : Whole (add binary64 (mul binary64 (whole 0) (whole n)) (whole 0)) 0 =
    add_whole (none n l) nought (omega arith) in
    let e : 0 * n ≡ 0 = zero-mul n in
    let z : Whole (mul binary64 (add binary64 (mul binary64 (whole 0) (whole n)) (whole 0)) (whole n)) 0 =
    subst (λ (p : ℕ). Whole (mul binary64 (add binary64 (mul binary64 (whole 0) (whole n)) (whole 0)) (whole n)) p) e
    (mul_whole y w (omega arith)) in
    zero_plus a z (good (Flat a) u.passes).nonneg u.floats
same_cost (Straight a b) n u l =
    let g = good (curved_of (record_of (Straight a b))) u.passes in
    let z = zero_plus b (none n l) g.1.nonneg (and_r (fits binary64 a) (fits binary64 b) u.floats) in
    let B : Amount b most2 = record { nonneg = g.1.nonneg; most = omega (arith, g.1.most) } in
    let m = mul_below (step2 g.2 n l g.1) B (whole_amount n l) (whole_amount n l) z.0 (self (whole n))
    (lit≤ tt) in
    let m' = mul_below B (step2 g.2 n l g.1) (whole_amount n l) (whole_amount n l) z.1 (self (whole n))
    (lit≤ tt) in
    let X = step3 g.2 n l g.1 in
    let Y = mul_amount B (whole_amount n l) (lit≤ tt) in
    (add_below X Y g.0 g.0 m (self a) (lit≤ tt), add_below Y X g.0 g.0 m' (self a) (lit≤ tt))
same_cost (Curved a b c) n u l = (self (cost_of (Curved a b c) n), self (cost_of (Curved a b c) n))

-- the record's entries are the kind's
pub record_entry : (k : Kind) (n : ℕ) → Usable k → n ≤ most_energy
    → entry_of (curved_of (record_of k)) n ≡ entry_of k n
record_entry k n u l =
    let r = record_of k in
    let x = cost_of (curved_of r) n in
    let y = cost_of k n in
    let s = same_cost k n u l in
    entry_closest (curved_of r) n (curved_fits r.a r.b r.c n) (good (curved_of r) u.passes) l
    ∙ closest_same (num x) (den x) (num y) (den y) (den_pos x) (den_pos y) (le_antisymm s.0 s.1)
    ∙ sym (entry_closest k n (cost_fits k n u.floats) (good k u.passes) l)
