-- The promises of specs/Promises, kept. Assumes nothing.
use mathlib.Core.Path.{◌≡◌, refl, sym, ◌∙◌}
use mathlib.Core.Logic.{◌↔◌}
use mathlib.Core.Bool.{◌&&◌}
use mathlib.Core.List.{List}
use Prim.Native.Nat.{ℕ, ◌+◌, ◌*◌, ◌%◌, ◌^◌, ◌≤◌, ◌<◌}
use native.Mathlib.Nat.{le_of_eq, le_antisymm, le_refl, lt_of_le_of_lt}
use native.Mathlib.Omega.{arith}
use lib.Dec.{T, lit<}
use lib.IntN.{ℤ, pos}
use lib.ListN.{length, get_or, drop, get_or-append}
use lib.Seq.{drop_at}
use lib.Ieee.{Float, binary64, add, mul, eq, fits, of_int, of_bits, to_bits}
use lib.Pow.{pow_pos}
use Rattle.laws.proofs.Tests.{and_to_both, both_to_and, t_to_true}
use Rattle.curve.specs.declared.Kind.{Kind}
use Rattle.curve.specs.declared.Kind.TheVariants.{Flat, Straight, Curved}
use Rattle.curve.specs.declared.Curve.{Curve}
use Rattle.curve.specs.Pattern.{scale, units_of, whole_of}
use Rattle.curve.specs.Cost.{most_energy, costs_length, allowed, record_of, accepted, held, cost_of, pattern_of}
use Rattle.curve.specs.Cost.{entry_of, table_of, tabled}
use Rattle.curve.specs.Promises.{Half, Tied, IsWhole, Alike, Promises}
use Rattle.curve.proofs.NearestLaws.{closest_half, closest_even}
use Rattle.curve.proofs.SignLaws.{sign_clear}
use Rattle.curve.proofs.RoundLaws.{Below}
use Rattle.curve.proofs.AmountLaws.{Amount, Whole}
use Rattle.curve.proofs.AllowedLaws.{allowed_bits}
use Rattle.curve.proofs.CostLaws.{Good, good, Under, flat, straight, curved, under_self, cost_amount}
use Rattle.curve.proofs.CostLaws.{cost_fits, cost_field, entry_most, entry_mono}
use Rattle.curve.proofs.WholeLaws.{equal_size, whole_of_eq, entry_whole, straight_whole, curved_whole}
use Rattle.curve.proofs.RecordLaws.{record_entry}
use Rattle.curve.proofs.BendLaws.{entries_bend, entry_close}
use Rattle.curve.proofs.SuppliedLaws.{not_to_false, told, c_used, b_used, other_number, answers_16, answers_10}
use Rattle.curve.proofs.SuppliedLaws.{answers_done}
use Rattle.curve.proofs.TableLaws.{table_length, table_at}

half : (k : Kind) (n : ℕ) → Half (entry_of k n) (units_of (pattern_of k n)) (2 ^ scale)
unfolding entry_of whole_of
half k n = closest_half (units_of (pattern_of k n)) (2 ^ scale) (pow_pos scale)

even : (k : Kind) (n : ℕ) → Tied (entry_of k n) (units_of (pattern_of k n)) (2 ^ scale) → entry_of k n % 2 ≡ 0
unfolding entry_of whole_of
even k n h = closest_even (units_of (pattern_of k n)) (2 ^ scale) (pow_pos scale) h

ordered : entry_of (Curved (of_bits binary64 4676952231506241126) (of_bits binary64 4611843644414345871)
    (of_bits binary64 4606011482896901079)) 649 ≡ 416679
unfolding entry_of cost_of whole_of units_of add mul of_bits of_int to_bits
ordered = refl

-- ---- whole coefficients

given : {x : Float} {p : ℕ} → IsWhole x p → Whole x p
given {x} {p} w = whole_of_eq x p w.small w.equal

flat_is : (a : Float) (A n : ℕ) → IsWhole a A → entry_of (Flat a) n ≡ A
unfolding held cost_of
flat_is a A n u = entry_whole (Flat a) n A u.float (given u)

straight_is : (a b : Float) (A B n : ℕ) → IsWhole a A → IsWhole b B → n ≤ most_energy
    → entry_of (Straight a b) n ≡ B * n + A
unfolding held
straight_is a b A B n u v h =
    entry_whole (Straight a b) n (B * n + A) (both_to_and (fits binary64 a) (fits binary64 b) u.float v.float)
    (straight_whole (given u) (given v) u.small v.small h)

curved_is : (a b c : Float) (A B C n : ℕ) → IsWhole a A → IsWhole b B → IsWhole c C → n ≤ most_energy
    → entry_of (Curved a b c) n ≡ (C * n + B) * n + A
unfolding held
curved_is a b c A B C n u v w h =
    entry_whole (Curved a b c) n ((C * n + B) * n + A)
    (both_to_and (fits binary64 a) (fits binary64 b && fits binary64 c) u.float
    (both_to_and (fits binary64 b) (fits binary64 c) v.float w.float))
    (curved_whole (given u) (given v) u.small v.small h (given w) w.small)

-- ---- kinds that are alike

module _ (x : Float) {y : Float} {B : ℕ} (q : Amount y B) (t : T (eq x y)) where
  up : Below x y
  up = le_of_eq (equal_size x y t q.nonneg).1

  down : Below y x
  down = le_of_eq (sym (equal_size x y t q.nonneg).1)

both : (k l : Kind) → Good l → Alike k l → Under k l × Under l k
both (Flat a) (Flat a') g t = (flat (up a g t), flat (down a g t))
both (Straight a b) (Straight a' b') g t =
    (straight (up a g.0 t.0) (up b g.1 t.1), straight (down a g.0 t.0) (down b g.1 t.1))
both (Curved a b c) (Curved a' b' c') g t = (
  curved (up a g.0 t.0) (up b g.1 t.1) (up c g.2 t.2),
  curved (down a g.0 t.0) (down b g.1 t.1) (down c g.2 t.2),
)
both (Flat a) (Straight a' b') g t = absurd t
both (Flat a) (Curved a' b' c') g t = absurd t
both (Straight a b) (Flat a') g t = absurd t
both (Straight a b) (Curved a' b' c') g t = absurd t
both (Curved a b c) (Flat a') g t = absurd t
both (Curved a b c) (Straight a' b') g t = absurd t

-- ---- the record, and the lent numbers

passes_all : (r : Curve) → T (accepted r) ↔ (T (allowed r.a) × T (allowed r.b) × T (allowed r.c))
unfolding accepted
passes_all r = (
  λ t.
      let s = and_to_both (allowed r.a) (allowed r.b && allowed r.c) t in
      let u = and_to_both (allowed r.b) (allowed r.c) s.1 in
      (s.0, u.0, u.1),
  λ s. both_to_and (allowed r.a) (allowed r.b && allowed r.c) s.0
      (both_to_and (allowed r.b) (allowed r.c) s.1 s.2),
)

stands_at : (k : Kind) (lent : List ℤ) (n : ℕ) → n ≤ most_energy → get_or (tabled k lent) n (pos 0) ≡ pos (entry_of k n)
stands_at k lent n h =
    let l : n < length (table_of k) = omega (arith, table_length k) in
    get_or-append (table_of k) (drop costs_length lent) (pos 0) n l ∙ table_at k n h

pub promises : Promises
promises = record {
  coefficient = allowed_bits;
  passes = passes_all;
  given = told;
  unused = c_used;
  unused_flat = b_used;
  unknown = other_number;
  sixteen = λ k l t. answers_16 k l (not_to_false (accepted (record_of k)) t);
  ten = λ k l t h. answers_10 k l (t_to_true (accepted (record_of k)) t) h;
  filled = λ k l t h. answers_done k l (t_to_true (accepted (record_of k)) t) h;
  entries = table_length;
  stands = stands_at;
  beyond = λ k l. drop_at (table_of k) (drop costs_length l) costs_length (table_length k);
  never_falls = λ k m n u h l. entry_mono m n u.floats u.floats (good k u.passes) (good k u.passes)
      (under_self k) h l;
  finite = λ k n u h. record {
    finite = lt_of_le_of_lt (cost_field k n (cost_fits k n u.floats) (good k u.passes) h) (lit< tt);
    sign = sign_clear (cost_of k n) (cost_fits k n u.floats) (cost_amount k n (good k u.passes) h).nonneg;
  };
  within_half = half;
  tie_even = even;
  in_order = ordered;
  flat_whole = λ a A n u h. flat_is a A n u;
  straight_whole = straight_is;
  curved_whole = curved_is;
  by_record = record_entry;
  alike = λ k l n u v t h.
      let b = both k l (good l v.passes) t in
      le_antisymm
      (entry_mono n n u.floats v.floats (good k u.passes) (good l v.passes) b.0 (le_refl n) h)
      (entry_mono n n v.floats u.floats (good l v.passes) (good k u.passes) b.1 (le_refl n) h);
  close = entry_close;
  bends = entries_bend;
  most = λ k n u h. entry_most k n (cost_fits k n u.floats) (good k u.passes) h;
}
