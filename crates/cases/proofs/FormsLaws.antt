-- Laws of the forms: which one a file has, and signed 32-bit numbers by their bits. Assumes nothing.
use mathlib.Core.Path.{◌≡◌, refl, ap, ◌∙◌}
use mathlib.Core.Logic.{◌⊎◌, inl, inr}
use mathlib.Core.Bool.{Bool, true, false, ◌&&◌, not, cond, true≢false}
use mathlib.Core.List.{List}
use Prim.Native.Nat.{ℕ, suc, ◌-◌, ◌<◌, ◌≤◌}
use native.Mathlib.Decide.{ℕ_discrete, dec_lt}
use native.Mathlib.Omega.{arith}
use borrow.Author.Tests.{eq-eqb, ne_eqb, lt-ltb, le-ltb, ltb-true}
use lib.Dec.{ltb, eqb}
use lib.IntN.{ℤ, pos, negsuc, nat_abs, ◌-ℤ◌}
use lib.ListN.{length}
use Rattle.laws.proofs.Signed.{up, down, parts_eq, parts_sub}
use Rattle.laws.proofs.Tests.{and_true}
use Rattle.cases.specs.Limits.{longs, half_longs}
use Rattle.cases.specs.Symbols.{every, before}
use Rattle.cases.specs.Forms.{Form, old_form, form2, newest, numbered, form_numbered, unknown, entry_length}
use Rattle.cases.specs.Forms.{pairs_length}
use Rattle.cases.specs.Layout.{number_at, offset_at, section_at, form_number_at, form_of, signed, unsigned}
use Rattle.cases.proofs.LimitsLaws.{every_true}

-- ---- the form of a file
-- where the unit begins in the old form, and in those that hold their number
abbrev pub old_front : ℕ
old_front = pairs_length old_form.1

abbrev pub front : ℕ
front = pairs_length newest.1

-- a form that a file has, and how it shows
pub data Known (file : List ℕ) : Form → Type 0 where
  is_old : offset_at file 0 ≡ old_front → Known file old_form.1
  is_two : (offset_at file 0 ≡ old_front → ⊥) → form_number_at file ≡ form2.0 → Known file form2.1
  is_new : (offset_at file 0 ≡ old_front → ⊥) → (form_number_at file ≡ form2.0 → ⊥) → Known file newest.1

pub four_sections : {file : List ℕ} {f : Form} → Known file f → 4 ≤ length f
four_sections (is_old d) = omega arith
four_sections (is_two d n) = omega arith
four_sections (is_new d n) = omega arith

pub five_sections : {file : List ℕ} {f : Form} → Known file f → length f ≤ 5
five_sections (is_old d) = omega arith
five_sections (is_two d n) = omega arith
five_sections (is_new d n) = omega arith

-- the form number is that of the fifth section
pub number_section : (file : List ℕ) → form_number_at file ≡ number_at (section_at file 4) 0 2
unfolding form_number_at
number_section file = refl

-- every section has bytes
all_wide : {file : List ℕ} {f : Form} → Known file f → every (λ i. ltb 0 (entry_length f (before i))) (length f) ≡ true
unfolding every
all_wide (is_old d) = refl
all_wide (is_two d n) = refl
all_wide (is_new d n) = refl

pub wide : {file : List ℕ} {f : Form} → Known file f → (i : ℕ) → i < length f → 0 < entry_length f i
wide {file} {f} k i h = ltb-true 0 (entry_length f i) (every_true _ (length f) (all_wide k) (suc i) (omega arith) h)

form_numbered_two : (n : ℕ) → n ≡ form2.0 → form_numbered numbered n ≡ form2.1
unfolding form_numbered
form_numbered_two n e = rw e

-- every other number is measured by the newest form
form_numbered_new : (n : ℕ) → (n ≡ form2.0 → ⊥) → form_numbered numbered n ≡ newest.1
unfolding form_numbered
form_numbered_new n h = rw (ne_eqb n form2.0 h) (go (eqb n newest.0))
  where
    go : (t : Bool) → cond {A = Form} t newest.1 newest.1 ≡ newest.1
    go true = refl
    go false = refl

-- a number that no form has, and one that some form has
pub unknown_is : (n : ℕ) → unknown numbered n ≡ not (eqb n newest.0) && not (eqb n form2.0)
unfolding unknown
unknown_is n = ap (λ t. not (eqb n newest.0) && t) (and_true (not (eqb n form2.0)))

pub unknown_false : (n : ℕ) → unknown numbered n ≡ false → (n ≡ form2.0) ⊎ (n ≡ newest.0)
unfolding unknown
unknown_false n e = go (ℕ_discrete n form2.0) (ℕ_discrete n newest.0)
  where
    go : Dec (n ≡ form2.0) → Dec (n ≡ newest.0) → (n ≡ form2.0) ⊎ (n ≡ newest.0)
    go (yes d) k = inl d
    go (no d) (yes k) = inr k
    go (no d) (no k) = absurd (true≢false (rw (ne_eqb n newest.0 k, ne_eqb n form2.0 d) at e))

pub known : (file : List ℕ) → Known file (form_of file)
unfolding form_of
known file = go (ℕ_discrete (offset_at file 0) old_front) (ℕ_discrete (form_number_at file) form2.0)
  where
    go : Dec (offset_at file 0 ≡ old_front) → Dec (form_number_at file ≡ form2.0) → Known file (form_of file)
    go (yes d) k = rw (eq-eqb (offset_at file 0) old_front d) (is_old d)
    go (no d) (yes n) =
        rw (ne_eqb (offset_at file 0) old_front d, form_numbered_two (form_number_at file) n) (is_two d n)
    go (no d) (no n) =
        rw (ne_eqb (offset_at file 0) old_front d, form_numbered_new (form_number_at file) n) (is_new d n)

-- a file's form, from what it shows
module _ (file : List ℕ) where
  pub form_of_old : offset_at file 0 ≡ old_front → form_of file ≡ old_form.1
  form_of_old e = go (known file)
    where
      go : {f : Form} → Known file f → f ≡ old_form.1
      go (is_old d) = refl
      go (is_two d n) = absurd (d e)
      go (is_new d n) = absurd (d e)

  pub form_of_two : (offset_at file 0 ≡ old_front → ⊥) → form_number_at file ≡ form2.0 → form_of file ≡ form2.1
  form_of_two h m = go (known file)
    where
      go : {f : Form} → Known file f → f ≡ form2.1
      go (is_old d) = absurd (h d)
      go (is_two d n) = refl
      go (is_new d n) = absurd (n m)

  pub form_of_new : (offset_at file 0 ≡ old_front → ⊥) → (form_number_at file ≡ form2.0 → ⊥) → form_of file ≡ newest.1
  form_of_new h m = go (known file)
    where
      go : {f : Form} → Known file f → f ≡ newest.1
      go (is_old d) = absurd (h d)
      go (is_two d n) = absurd (m n)
      go (is_new d n) = refl

  -- the forms that hold their number have five sections
  pub length_numbered : (offset_at file 0 ≡ old_front → ⊥) → length (form_of file) ≡ 5
  length_numbered h = go (known file)
    where
      go : {f : Form} → Known file f → length f ≡ 5
      go (is_old d) = absurd (h d)
      go (is_two d n) = refl
      go (is_new d n) = refl

  -- and the old form alone has four
  pub four_old : length (form_of file) ≡ 4 → offset_at file 0 ≡ old_front
  four_old e = go (ℕ_discrete (offset_at file 0) old_front)
    where
      go : Dec (offset_at file 0 ≡ old_front) → offset_at file 0 ≡ old_front
      go (yes d) = d
      go (no h) = absurd (omega (arith, length_numbered h))

  pub more_late : (length (form_of file) ≡ 4 → ⊥) → offset_at file 0 ≡ old_front → ⊥
  more_late h e = h (ap length (form_of_old e))

-- ---- signed numbers
pub signed_low : (n : ℕ) → n < half_longs → signed n ≡ pos n
unfolding signed
signed_low n h = rw (lt-ltb n half_longs h)

pub signed_high : (n : ℕ) → half_longs ≤ n → signed n ≡ pos n -ℤ pos longs
unfolding signed
signed_high n h = rw (le-ltb n half_longs h)

pub unsigned_lt : (z : ℤ) → nat_abs z < half_longs → unsigned z < longs
unfolding unsigned
unsigned_lt (pos n) h = omega arith
unsigned_lt (negsuc n) h = omega arith

pub signed_unsigned : (z : ℤ) → nat_abs z < half_longs → signed (unsigned z) ≡ z
unfolding unsigned up down
signed_unsigned (pos n) h = signed_low n h
signed_unsigned (negsuc n) h =
    signed_high (longs - suc n) (omega arith)
    ∙ parts_eq (pos (longs - suc n) -ℤ pos longs) (negsuc n)
    (omega (arith, parts_sub (pos (longs - suc n)) (pos longs)))

pub unsigned_signed : (n : ℕ) → n < longs → unsigned (signed n) ≡ n
unfolding unsigned up down
unsigned_signed n h = go (dec_lt n half_longs)
  where
    -- a number of the upper half is longs less
    lower : (z : ℤ) → z ≡ pos n -ℤ pos longs → unsigned z ≡ n
    lower (pos m) e = absurd (omega (arith, parts_sub (pos n) (pos longs), ap up e, ap down e))
    lower (negsuc m) e = omega (arith, parts_sub (pos n) (pos longs), ap up e, ap down e)

    go : Dec (n < half_longs) → unsigned (signed n) ≡ n
    go (yes l) = ap unsigned (signed_low n l)
    go (no l) = lower (signed n) (signed_high n (omega arith))
