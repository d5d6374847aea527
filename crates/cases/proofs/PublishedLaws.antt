-- Laws of the second view of a file: its numbers by their bytes, its signed numbers by their bits, and whether it has
-- stages. Assumes nothing.
use mathlib.Core.Path.{◌≡◌, sym, ap, ◌∙◌, subst}
use mathlib.Core.Logic.{⊎_elim}
use mathlib.Core.List.{List}
use Prim.Native.Nat.{ℕ, suc, ◌+◌, ◌*◌, ◌-◌, ◌<◌}
use native.Mathlib.Decide.{ℕ_discrete, dec_lt}
use native.Mathlib.Numerals.{add-one}
use native.Mathlib.Omega.{arith}
use lib.IntN.{ℤ}
use lib.ListN.{length}
use Rattle.cases.specs.Limits.{half_longs}
use Rattle.cases.specs.Forms.{form2}
use Rattle.cases.specs.Layout.{number_at, offset_at, length_at, end_at, signed, section_at, form_number_at}
use Rattle.cases.specs.Published.{word, long, Signed, above, below, Stageless, old, two, Chained}
use Rattle.cases.proofs.LayoutLaws.{number_at_suc, number_at_part}
use Rattle.cases.proofs.NumbersLaws.{number_at_one}
use Rattle.cases.proofs.FormsLaws.{old_front, front, signed_low, signed_high}

-- ---- numbers by their bytes
pub number_at_word : (s : List ℕ) (i : ℕ) → number_at s i 2 ≡ word s i
number_at_word s i = rw add-one (omega (arith, number_at_suc s i 1, number_at_one s (suc i)))

pub number_at_long : (s : List ℕ) (i : ℕ) → number_at s i 4 ≡ long s i
number_at_long s i =
    let e : i + 2 ≡ suc (suc i) = omega arith in
    rw (e, ← number_at_word s (suc (suc i)), add-one)
    (omega (arith, number_at_suc s i 3, number_at_suc s (suc i) 2))

pub offset_word : (s : List ℕ) (i : ℕ) → offset_at s i ≡ word s (4 * i)
unfolding offset_at
offset_word s i = number_at_word s (4 * i)

pub length_word : (s : List ℕ) (i : ℕ) → length_at s i ≡ word s (4 * i + 2)
unfolding length_at
length_word s i = number_at_word s (4 * i + 2)

pub end_word : (s : List ℕ) (i : ℕ) → end_at s i ≡ word s (4 * i) + word s (4 * i + 2)
unfolding end_at
end_word s i = rw (offset_word s i, length_word s i)

-- a signed number is what its bits say
signed_view : (n : ℕ) → Signed n (signed n)
signed_view n = go (dec_lt n half_longs)
  where
    go : Dec (n < half_longs) → Signed n (signed n)
    go (yes l) = subst (Signed n) (sym (signed_low n l)) (above l)
    go (no l) = subst (Signed n) (sym (signed_high n (omega arith))) (below (omega arith))

pub signed_of : {n m : ℕ} {z : ℤ} → n ≡ m → signed m ≡ z → Signed n z
signed_of {n} e d = subst (Signed n) (ap signed e ∙ d) (signed_view n)

-- ---- files without stages
staged : {s : List ℕ} → (word s 0 ≡ old_front → ⊥) → (word s 0 ≡ front → word s (length s - 2) ≡ 2 → ⊥) → Stageless s → ⊥
staged h n (old d) = h d
staged h n (two d l) = n d l

pub stageless_test : (s : List ℕ) → Dec (Stageless s)
stageless_test s = go (ℕ_discrete (word s 0) old_front) (ℕ_discrete (word s 0) front) (ℕ_discrete (word s (length s - 2)) 2)
  where
    go : Dec (word s 0 ≡ old_front) → Dec (word s 0 ≡ front) → Dec (word s (length s - 2) ≡ 2) → Dec (Stageless s)
    go (yes d) f l = yes (old d)
    go (no h) (yes d) (yes l) = yes (two d l)
    go (no h) (yes d) (no n) = no (staged h (λ x. n))
    go (no h) (no k) l = no (staged h (λ x y. k x))

-- a file whose form section, if it has one, is of two bytes
module _ (s : List ℕ) (chained : Chained s) (two_bytes : word s 0 ≡ front → word s 18 ≡ 2) where
  -- the form number is the last two bytes
  pub last_bytes : word s 0 ≡ front → form_number_at s ≡ word s (length s - 2)
  unfolding form_number_at section_at
  last_bytes first =
      let size = two_bytes first in
      let at : offset_at s 4 + 0 ≡ length s - 2 = omega (arith, offset_word s 4, chained.end first) in
      sym (number_at_part s (offset_at s 4) (length_at s 4) 0 2 (omega (arith, length_word s 4)))
      ∙ ap (λ x. number_at s x 2) at ∙ number_at_word s (length s - 2)

  -- a file that is not of the old form
  module _ (late : offset_at s 0 ≡ old_front → ⊥) where
    pub first_late : word s 0 ≡ front
    first_late = ⊎_elim (λ z. absurd (late (offset_word s 0 ∙ z))) (λ z. z) chained.forms

    pub two_stageless : form_number_at s ≡ form2.0 → Stageless s
    two_stageless n = two first_late (sym (last_bytes first_late) ∙ n)

    pub new_staged : (form_number_at s ≡ form2.0 → ⊥) → Stageless s → ⊥
    new_staged n = staged (λ d. late (offset_word s 0 ∙ d)) (λ d l. n (last_bytes d ∙ l))
