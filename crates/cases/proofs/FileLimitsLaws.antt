-- The refusal of a file is the first number whose published limits it does not keep. Assumes nothing.
use mathlib.Core.Path.{◌≡◌, refl, sym, ap, ◌∙◌}
use mathlib.Core.Logic.{◌↔◌, ⊎_elim, inl, inr}
use mathlib.Core.Bool.{Bool, true, false, ◌||◌, not}
use mathlib.Core.List.{List}
use Prim.Native.Nat.{ℕ, zero, suc, ◌+◌, ◌*◌, ◌-◌, ◌<◌}
use native.Mathlib.Omega.{arith}
use borrow.Author.Tests.{eq-eqb, le-leb}
use lib.Dec.{T, eqb, eqb-suc-zero}
use lib.ListN.{length}
use Rattle.cases.specs.declared.Case.{Case}
use Rattle.cases.specs.Limits.{most_stages, most_hours}
use Rattle.cases.specs.Symbols.{every, before}
use Rattle.cases.specs.Forms.{Form, numbered, unknown}
use Rattle.cases.specs.Layout.{offset_at, length_at, end_at, form_number_at, case_in, case_of}
use Rattle.cases.specs.Refusals.{within, fits, refusal1, fitting, refusal2_file, refusal12, first_of, file_tests}
use Rattle.cases.specs.Refusals.{refusal_of}
use Rattle.cases.specs.Reads.{reading_of, read_of, outcome_number}
use Rattle.cases.specs.Published.{Counts, Limited, limit2, limit3, limit4, limit5, limit6, limit7, limit8}
use Rattle.cases.specs.Published.{limit13, FirstRefused, later, file_order}
use Rattle.cases.specs.Published.{word, old, Chained, Measured, Holds, FileLimited, file1, file2, file12, held}
use Rattle.cases.proofs.RefusalsLaws.{first_exactly, first_cond, first_rest, first_same, fits_times}
use Rattle.cases.proofs.RefusalsLaws.{refusal12_old, refusal12_late}
use Rattle.cases.proofs.LimitsLaws.{Between}
use Rattle.cases.proofs.LimitedLaws.{refusal_of_first}
use Rattle.cases.proofs.FormsLaws.{old_front, front, Known, is_old, is_two, is_new, four_sections, known}
use Rattle.cases.proofs.FormsLaws.{form_of_old, length_numbered}
use Rattle.cases.proofs.AcceptedLaws.{linked, whole, number_known}
use Rattle.cases.proofs.SameLimitsLaws.{limited_same}
use Rattle.cases.proofs.PublishedLaws.{offset_word, length_word, end_word, last_bytes, first_late}
use Rattle.cases.proofs.PublishedLaws.{two_stageless, new_staged}
use Rattle.cases.proofs.HoldsLaws.{chained_of, holds_case_of}

-- the numbers that are a record's own in a file: those of a record but 2
abbrev own : ℕ → Bool
own n = within 3 8 n || eqb n 13

limited_own : {c : Case} {n : ℕ} → Limited c n → T (eqb n 2 || own n)
limited_own (limit2 x) = tt
limited_own (limit3 x) = tt
limited_own (limit4 x) = tt
limited_own (limit5 x) = tt
limited_own (limit6 x) = tt
limited_own (limit7 x) = tt
limited_own (limit8 x) = tt
limited_own (limit13 x) = tt

counts_of : {c : Case} → Limited c 2 → Counts c
counts_of (limit2 n) = n

module _ (s : List ℕ) where
  -- ---- a chained file is not refused by 1
  begins : (i : ℕ) → word s (4 * suc i) ≡ word s (4 * i) + word s (4 * i + 2)
      → eqb (offset_at s (suc i)) (end_at s i) ≡ true
  begins i e = eq-eqb (offset_at s (suc i)) (end_at s i) (offset_word s (suc i) ∙ e ∙ sym (end_word s i))

  refusal1_chained : Chained s → refusal1 s ≡ false
  unfolding refusal1 every
  refusal1_chained c = ⊎_elim as_old as_new c.forms
    where
      as_old : word s 0 ≡ old_front → refusal1 s ≡ false
      as_old e =
          rw (
            form_of_old s (offset_word s 0 ∙ e),
            le-leb old_front (length s) (omega (arith, c.pairs)),
            eq-eqb (offset_at s 0) old_front (offset_word s 0 ∙ e),
            begins 0 c.rise,
            begins 1 c.fall,
            begins 2 c.hours,
            eq-eqb (end_at s 3) (length s) (end_word s 3 ∙ sym (c.old_end e)),
          )

      as_new : word s 0 ≡ front → refusal1 s ≡ false
      as_new e =
          rw (
            length_numbered s (λ z. omega (arith, offset_word s 0)),
            le-leb front (length s) (omega (arith, c.pairs)),
            eq-eqb (offset_at s 0) front (offset_word s 0 ∙ e),
            begins 0 c.rise,
            begins 1 c.fall,
            begins 2 c.hours,
            begins 3 (c.form e),
            eq-eqb (end_at s 4) (length s) (end_word s 4 ∙ sym (c.end e)),
          )

  -- ---- nor by 2, if its lengths are those of counts within the limits
  fits_of : (w most n i : ℕ) → 0 < w → length_at s i ≡ w * n → Between 1 most n → fits w most (length_at s i) ≡ true
  fits_of w most n i h e b = ap (fits w most) e ∙ fits_times w most n h b

  refusal2_measured : Chained s → (c : Case) → Measured s c → Counts c → refusal2_file s ≡ false
  unfolding refusal2_file every
  refusal2_measured chained c m n = go (known s)
    where
      unit : (w : ℕ) → 0 < w → word s 2 ≡ w → fits w 1 (length_at s 0) ≡ true
      unit w h e = fits_of w 1 1 0 h (omega (arith, length_word s 0)) (omega arith)

      rise : fits 2 most_stages (length_at s 1) ≡ true
      rise = fits_of 2 most_stages c.rises 1 (omega arith) (length_word s 1 ∙ m.rise) n.rises

      fall : fits 2 most_stages (length_at s 2) ≡ true
      fall = fits_of 2 most_stages c.falls 2 (omega arith) (length_word s 2 ∙ m.fall) n.falls

      old_hours : word s 0 ≡ old_front → fits 3 most_hours (length_at s 3) ≡ true
      old_hours e = fits_of 3 most_hours c.hours 3 (omega arith) (length_word s 3 ∙ m.old_hours e) n.hours

      hours : word s 0 ≡ front → fits 5 most_hours (length_at s 3) ≡ true
      hours e = fits_of 5 most_hours c.hours 3 (omega arith) (length_word s 3 ∙ m.hours e) n.hours

      form : word s 0 ≡ front → fits 2 1 (length_at s 4) ≡ true
      form e = fits_of 2 1 1 4 (omega arith) (length_word s 4 ∙ m.form e) (omega arith)

      go : {f : Form} → Known s f → not (every (λ i. fitting s f (before i)) (length f)) ≡ false
      go (is_old d) =
          let first = sym (offset_word s 0) ∙ d in
          rw (unit 32 (omega arith) (m.old_unit (old first)), rise, fall, old_hours first)
      go (is_two d k) =
          let first = first_late s chained m.form d in
          rw (
            unit 32 (omega arith) (m.old_unit (two_stageless s chained m.form d k)),
            rise,
            fall,
            hours first,
            form first,
          )
      go (is_new d k) =
          let first = first_late s chained m.form d in
          rw (
            unit 34 (omega arith) (m.unit (new_staged s chained m.form d k)),
            rise,
            fall,
            hours first,
            form first,
          )

  -- ---- what neither 1 nor 2 refuses
  module _ (e : refusal1 s ≡ false) (d : refusal2_file s ≡ false) where
    holds : Holds s (case_of s)
    holds = holds_case_of s (whole s e d)

    counts : Counts (case_of s)
    unfolding case_of case_in
    counts =
        let w = whole s e d in
        let four = four_sections (known s) in
        record {
          rises = w.entries_in 1 (omega arith);
          falls = w.entries_in 2 (omega arith);
          hours = w.entries_in 3 (omega arith);
        }

    -- the form number is the last two bytes
    last : word s 0 ≡ front → form_number_at s ≡ word s (length s - 2)
    last = last_bytes s holds.chained holds.measured.form

    limited12 : refusal12 s ≡ false → FileLimited s 12
    limited12 t = file12 (λ first. ⊎_elim (λ n. inl (sym (last first) ∙ n)) (λ n. inr (sym (last first) ∙ n))
        (number_known s (λ z. omega (arith, offset_word s 0)) t))

    passes12 : FileLimited s 12 → refusal12 s ≡ false
    unfolding unknown
    passes12 (file12 l) = ⊎_elim (λ first. refusal12_old s (offset_word s 0 ∙ first))
        (λ first. refusal12_late s (λ z. omega (arith, offset_word s 0))
        ∙ ⊎_elim (λ n. ap (unknown numbered) (last first ∙ n)) (λ n. ap (unknown numbered) (last first ∙ n)) (l first))
        holds.chained.forms
    passes12 (held n c k l) = absurd (limited_own l)

    -- the limits of a record are those of the record that the file holds
    kept_by_record : (m : ℕ) → T (own m) → FileLimited s m → Limited (case_of s) m
    kept_by_record m x (file1 c) = absurd x
    kept_by_record m x (file2 c k n) = absurd x
    kept_by_record m x (file12 l) = absurd x
    kept_by_record m x (held n c k l) = limited_same k holds counts l

    kept_by_file : (m : ℕ) → Limited (case_of s) m → FileLimited s m
    kept_by_file m l = held m (case_of s) holds l

  passes1 : FileLimited s 1 → refusal1 s ≡ false
  passes1 (file1 c) = refusal1_chained c
  passes1 (held n c k l) = absurd (limited_own l)

  passes2 : refusal1 s ≡ false → FileLimited s 2 → refusal2_file s ≡ false
  passes2 e (file2 c m n) = refusal2_measured (chained_of s (linked s e)) c m n
  passes2 e (held n c k l) = refusal2_measured k.chained c k.measured (counts_of l)

  refused_first : FirstRefused (FileLimited s) file_order (first_of (file_tests s))
  unfolding first_of file_tests refusal_of
  refused_first =
      first_cond (refusal1 s) passes1
      (λ e. later (file1 (chained_of s (linked s e)))
      (first_cond (refusal2_file s) (passes2 e)
      (λ d. later (file2 (case_of s) (holds e d).measured (counts e d))
      (first_cond (refusal12 s) (passes12 e d)
      (λ t. later (limited12 e d t)
      (first_same own (λ m x. (kept_by_file e d m, kept_by_record e d m x)) (tt, (tt, (tt, (tt, (tt, (tt, (tt, tt)))))))
      (first_rest (limit2 (counts e d)) (refusal_of_first (case_of s)))))))))

-- the number of a reading is that of its refusal
outcome_number_reading_of : (n : ℕ) (c : Case) → outcome_number (reading_of n c).outcome ≡ n
unfolding reading_of
outcome_number_reading_of zero c = refl
outcome_number_reading_of (suc n) c = rw (eqb-suc-zero n)

pub file_limits : (s : List ℕ) (n : ℕ)
    → (outcome_number (read_of s).outcome ≡ n) ↔ FirstRefused (FileLimited s) file_order n
unfolding read_of
file_limits s n =
    rw (outcome_number_reading_of (first_of (file_tests s)) (case_of s)) (first_exactly (refused_first s) n)
