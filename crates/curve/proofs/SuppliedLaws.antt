-- The kind that a number tells, and what filling lent numbers answers, case by case. Assumes nothing.
use mathlib.Core.Path.{◌≡◌, refl, ap, ◌∙◌}
use mathlib.Core.Bool.{Bool, true, false, not, ◌&&◌, cond}
use mathlib.Core.List.{List}
use Prim.Native.Nat.{ℕ, zero, suc, ◌≤◌, ◌<◌}
use native.Mathlib.Omega.{arith}
use borrow.Author.Tests.{le-leb, lt-leb}
use lib.Dec.{T, leb}
use lib.IntN.{ℤ}
use lib.ListN.{length}
use lib.Ieee.{Float, eq}
use Rattle.laws.proofs.Tests.{and_false, t_to_true}
use Rattle.curve.specs.declared.Kind.{Kind}
use Rattle.curve.specs.declared.Kind.TheVariants.{Flat, Straight, Curved}
use Rattle.curve.specs.declared.Curve.{Curve}
use Rattle.curve.specs.Cost.{costs_length, whole, record_of, accepted, tabled, answer_of, lent_after, supplied_of}
use Rattle.curve.specs.Promises.{kind_number, Holds}
use Rattle.curve.specs.Cost.{done, refused}
use Rattle.std.specs.Prelude.{Some, None}

pub not_to_false : (a : Bool) → T (not a) → a ≡ false
not_to_false true t = absurd t
not_to_false false t = refl

-- ---- the kind

abbrev zeroed : Float → Bool
zeroed x = eq x (whole 0)

pub told : (k : Kind) (r : Curve) → Holds k r → supplied_of (kind_number k) r ≡ Some k
told (Flat a) r h =
    ap (λ (t : Bool). cond (t && zeroed r.c) (Some (Flat r.a)) None) (t_to_true (zeroed r.b) h.1)
    ∙ ap (λ (t : Bool). cond t (Some (Flat r.a)) None) (t_to_true (zeroed r.c) h.2)
    ∙ ap (λ (x : Float). Some (Flat x)) h.0
told (Straight a b) r h =
    ap (λ (t : Bool). cond t (Some (Straight r.a r.b)) None) (t_to_true (zeroed r.c) h.2)
    ∙ ap (λ (x : Float). Some (Straight x r.b)) h.0
    ∙ ap (λ (x : Float). Some (Straight a x)) h.1
told (Curved a b c) r h =
    ap (λ (x : Float). Some (Curved x r.b r.c)) h.0
    ∙ ap (λ (x : Float). Some (Curved a x r.c)) h.1
    ∙ ap (λ (x : Float). Some (Curved a b x)) h.2

module _ (r : Curve) where
  pub c_used : T (not (zeroed r.c)) → (supplied_of 0 r ≡ None) × (supplied_of 1 r ≡ None)
  c_used t =
      let e = not_to_false (zeroed r.c) t in (
        ap (λ (t : Bool). cond (zeroed r.b && t) (Some (Flat r.a)) None) e
            ∙ ap (λ (t : Bool). cond t (Some (Flat r.a)) None) (and_false (zeroed r.b)),
        ap (λ (t : Bool). cond t (Some (Straight r.a r.b)) None) e,
      )

  pub b_used : T (not (zeroed r.b)) → supplied_of 0 r ≡ None
  b_used t =
      ap (λ (t : Bool). cond (t && zeroed r.c) (Some (Flat r.a)) None) (not_to_false (zeroed r.b) t)

pub other_number : (n : ℕ) (r : Curve) → 2 < n → supplied_of n r ≡ None
other_number zero r h = absurd (omega arith)
other_number (suc zero) r h = absurd (omega arith)
other_number (suc (suc zero)) r h = absurd (omega arith)
other_number (suc (suc (suc n))) r h = refl

-- ---- the answer

-- which of three two tests pick
module _ {X : Type 0} (p q : Bool) (x y z : X) where
  pub picks_first : p ≡ true → q ≡ true → cond p (cond q x y) z ≡ x
  picks_first e f = ap (λ (t : Bool). cond t (cond q x y) z) e ∙ ap (λ (t : Bool). cond t x y) f

  pub picks_second : p ≡ true → q ≡ false → cond p (cond q x y) z ≡ y
  picks_second e f = ap (λ (t : Bool). cond t (cond q x y) z) e ∙ ap (λ (t : Bool). cond t x y) f

  pub picks_third : p ≡ false → cond p (cond q x y) z ≡ z
  picks_third e = ap (λ (t : Bool). cond t (cond q x y) z) e

module _ (k : Kind) (lent : List ℤ) where
  abbrev long : Bool
  long = leb costs_length (length lent)

  abbrev fit : Bool
  fit = accepted (record_of k)

  pub answers_16 : fit ≡ false → (answer_of k lent ≡ refused 16) × (lent_after k lent ≡ lent)
  answers_16 e = (
    picks_third fit long done (refused 10) (refused 16) e,
    picks_third fit long (tabled k lent) lent lent e,
  )

  pub answers_10 : fit ≡ true → length lent < costs_length → (answer_of k lent ≡ refused 10) × (lent_after k lent ≡ lent)
  answers_10 e h =
      let f = lt-leb costs_length (length lent) h in
      (picks_second fit long done (refused 10) (refused 16) e f, picks_second fit long (tabled k lent) lent lent e f)

  pub answers_done : fit ≡ true → costs_length ≤ length lent
      → (answer_of k lent ≡ done) × (lent_after k lent ≡ tabled k lent)
  answers_done e h =
      let f = le-leb costs_length (length lent) h in
      (picks_first fit long done (refused 10) (refused 16) e f, picks_first fit long (tabled k lent) lent lent e f)
