-- What is accepted: a file whose sections follow one another with whole entries, whose form is known and whose record
-- is within the limits. In the newest form it is what its record writes. Assumes nothing.
use mathlib.Core.Path.{◌≡◌, refl, sym, ap, ◌∙◌, subst}
use mathlib.Core.Logic.{◌⊎◌}
use mathlib.Core.Bool.{Bool, true, false, cond}
use mathlib.Core.List.{List, [], ◌∷◌, ◌++◌, append_assoc}
use Prim.Native.Nat.{ℕ, zero, suc, ◌+◌, ◌*◌, ◌-◌, ◌≤◌, ◌<◌}
use native.Mathlib.Omega.{arith}
use borrow.Author.Tests.{eqb-true, leb-true, not-false}
use lib.Dec.{leb, eqb}
use lib.ListN.{length, get_or, take, drop, length-take, length-drop}
use lib.Seq.{take_all, take-add, drop-drop}
use Rattle.laws.proofs.Tests.{both}
use Rattle.cases.specs.declared.Case.{Case}
use Rattle.quantities.specs.declared.Output.{Output}
use Rattle.cases.specs.declared.Reading.{Reading}
use Rattle.cases.specs.Limits.{most_stages, most_hours}
use Rattle.cases.specs.Symbols.{every, before}
use Rattle.cases.specs.Forms.{Form, unit_widths, stage_widths, form2, newest, most_entries, width}
use Rattle.cases.specs.Forms.{entry_length}
use Rattle.cases.specs.Layout.{AllBytes, number_at, offset_at, length_at, end_at, joined, bytes, no_output, no_mills}
use Rattle.cases.specs.Layout.{signed, unsigned, blank, counts_of, numbers_of, section_bytes, section_length}
use Rattle.cases.specs.Layout.{section_from, pair_bytes, file_of, section_at, field_at, form_number_at}
use Rattle.cases.specs.Layout.{form_of, entries_at, entry_at, case_in, case_of, padded, field_bytes}
use Rattle.cases.specs.Refusals.{refusal1, fits, refusal2_file, refusal12, first_of, file_tests, refusal_of}
use Rattle.cases.specs.Reads.{reading_of, read_of}
use Rattle.cases.proofs.RefusalsLaws.{fits_true, refusal12_late}
use Rattle.cases.proofs.LimitsLaws.{Between, first_zero, every_true}
use Rattle.cases.proofs.SymbolsLaws.{before_is}
use Rattle.cases.proofs.LayoutLaws.{take_bytes, drop_bytes, bytes_number_at, number_at_lt, get_d_padded_in}
use Rattle.cases.proofs.LayoutLaws.{joined_same, joined_prefix}
use Rattle.cases.proofs.FormsLaws.{old_front, front, unknown_false, form_of_new, unsigned_signed}
use Rattle.cases.proofs.FieldsLaws.{Matches, entries_read}
use Rattle.cases.specs.Reads.{Accepted, Refused}

-- its sections follow one another to its end
pub record Linked (f : Form) (file : List ℕ) : Type 0 where
  pub long : 4 * length f ≤ length file
  pub first : offset_at file 0 ≡ 4 * length f
  pub chain : (i : ℕ) → suc i < length f → offset_at file (suc i) ≡ end_at file i
  pub end : end_at file (before (length f)) ≡ length file

-- and have whole entries, as many as there may be
pub record Whole (f : Form) (file : List ℕ) : Type 0 where
  pub linked : Linked f file
  pub whole_entries : (i : ℕ) → i < length f → entry_length f i * entries_at f file i ≡ length_at file i
  pub entries_in : (i : ℕ) → i < length f → Between 1 (get_or most_entries i 0) (entries_at f file i)

pub linked : (file : List ℕ) → refusal1 file ≡ false → Linked (form_of file) file
unfolding refusal1
linked file e =
    let n = length (form_of file) in
    let (long, r0) = both (leb (4 * n) (length file)) _ (not-false _ e) in
    let (first, r1) = both (eqb (offset_at file 0) (4 * n)) _ r0 in
    let (chain, end) = both (every (λ i. eqb (offset_at file i) (end_at file (before i))) (before n)) _ r1 in
    record {
      long = leb-true (4 * n) (length file) long;
      first = eqb-true (offset_at file 0) (4 * n) first;
      chain = λ i h.
          eqb-true (offset_at file (suc i)) (end_at file i)
          (every_true _ (before n) chain (suc i) (omega arith) (omega (arith, before_is n)));
      end = eqb-true (end_at file (before n)) (length file) end;
    }

pub whole : (file : List ℕ) → refusal1 file ≡ false → refusal2_file file ≡ false → Whole (form_of file) file
unfolding refusal2_file entries_at
whole file e d =
    let f = form_of file in
    let n = length f in
    let section : (i : ℕ) → i < n
    → fits (entry_length f i) (get_or most_entries i 0) (length_at file i) ≡ true = λ i h.
    every_true _ n (not-false _ d) (suc i) (omega arith) h in
    record {
      linked = linked file e;
      whole_entries = λ i h. (fits_true (entry_length f i) (get_or most_entries i 0) (length_at file i) (section i h)).0;
      entries_in = λ i h. (fits_true (entry_length f i) (get_or most_entries i 0) (length_at file i) (section i h)).1;
    }

-- ---- the sections of a whole file
module _ {f : Form} {file : List ℕ} (w : Whole f file) where
  -- up to where section i ends
  sections_front : (i : ℕ) → i < length f
      → take (offset_at file 0) file ++ joined (section_at file) (suc i) ≡ take (end_at file i) file
  unfolding joined section_at end_at
  sections_front zero h = sym (take-add (offset_at file 0) (length_at file 0) file)
  sections_front (suc i) h =
      let at = offset_at file (suc i) in
      sym (append_assoc (take (offset_at file 0) file) (joined (section_at file) (suc i)) (section_at file (suc i)))
      ∙ ap (λ s. s ++ section_at file (suc i)) (sections_front i (omega arith))
      ∙ ap (λ n. take n file ++ section_at file (suc i)) (sym (w.linked.chain i h))
      ∙ sym (take-add at (length_at file (suc i)) file)

  -- section i ends within the file
  pub end_le : (n i : ℕ) → i + n ≡ before (length f) → end_at file i ≤ length file
  unfolding end_at
  end_le zero i e = omega (arith, ap (end_at file) (let d : i ≡ before (length f) = omega arith in d), w.linked.end)
  end_le (suc n) i e =
      omega (
        arith,
        end_le n (suc i) (omega arith),
        w.linked.chain i (omega (arith, before_is (length f))),
      )

  pub ends : (i : ℕ) → i < length f → end_at file i ≤ length file
  ends i h = end_le (before (length f) - i) i (omega (arith, before_is (length f)))

  pub length_section : (i : ℕ) → i < length f → length (section_at file i) ≡ length_at file i
  unfolding section_at end_at
  length_section i h =
      omega (
        arith,
        ends i h,
        length-take (length_at file i) (drop (offset_at file i) file),
        length-drop (offset_at file i) file,
      )

-- ---- a file in the newest form is what its record writes
module _ (file : List ℕ) (w : Whole newest.1 file) (a : AllBytes file) (number : form_number_at file ≡ newest.0) where
  abbrev form : Form
  form = newest.1

  abbrev case : Case
  case = case_in form file

  -- the pairs
  counts_read : (i : ℕ) → i < 5 → get_or (counts_of case) i 0 ≡ entries_at form file i
  unfolding case_in
  counts_read zero h = omega (arith, w.entries_in 0 h)
  counts_read (suc zero) h = refl
  counts_read (suc (suc zero)) h = refl
  counts_read (suc (suc (suc zero))) h = refl
  counts_read (suc (suc (suc (suc zero)))) h = omega (arith, w.entries_in 4 h)
  counts_read (suc (suc (suc (suc (suc i))))) h = absurd (omega arith)

  length_read : (i : ℕ) → i < 5 → section_length case newest i ≡ length_at file i
  unfolding section_length
  length_read i h = ap (λ n. entry_length form i * n) (counts_read i h) ∙ w.whole_entries i h

  from_read : (i : ℕ) → i < 5 → section_from case newest i ≡ offset_at file i
  unfolding section_from end_at
  from_read zero h = sym w.linked.first
  from_read (suc i) h = omega (arith, from_read i (omega arith), length_read i (omega arith), w.linked.chain i h)

  pair_read : (i : ℕ) → i < 5
      → bytes 2 (section_from case newest i) ++ bytes 2 (section_length case newest i) ≡ take 4 (drop (4 * i) file)
  unfolding offset_at length_at
  pair_read i h =
      let room : 4 * i + 4 ≤ length file = omega (arith, w.linked.long) in
      rw (from_read i h, length_read i h, bytes_number_at a (4 * i) 2 (omega arith))
      (rw (bytes_number_at a (4 * i + 2) 2 (omega arith))
      (ap (λ t. take 2 (drop (4 * i) file) ++ take 2 t) (sym (drop-drop 2 (4 * i) file))
      ∙ sym (take-add 2 2 (drop (4 * i) file))))

  pairs_read : pair_bytes case newest ≡ take front file
  unfolding pair_bytes
  pairs_read = joined_same _ (λ i. take 4 (drop (4 * i) file)) 5 pair_read ∙ joined_prefix file 4 5 w.linked.long

  -- the sections
  abbrev part : ℕ → List ℕ
  part i = section_at file i

  part_bytes : (i : ℕ) → AllBytes (part i)
  unfolding section_at
  part_bytes i = take_bytes (length_at file i) (drop (offset_at file i) file) (drop_bytes (offset_at file i) a)

  part_length : (i : ℕ) → i < 5 → entry_length form i * get_or (counts_of case) i 0 ≡ length (part i)
  part_length i h =
      ap (λ n. entry_length form i * n) (counts_read i h) ∙ w.whole_entries i h ∙ sym (length_section w i h)

  -- a signed number has its bits
  bits : (i at : ℕ) → unsigned (signed (number_at (part i) at 4)) ≡ number_at (part i) at 4
  bits i at = unsigned_signed (number_at (part i) at 4) (number_at_lt (part_bytes i) at 4)

  -- output k of a trajectory, and an array of n of them
  abbrev stage : ℕ → ℕ → Output
  stage i k = record { 0 = number_at (part i) (2 * k) 2 }

  abbrev stages : ℕ → ℕ → List Output
  stages i n = padded no_output (stage i) n most_stages

  stages_read : (i n : ℕ) → 2 * n ≡ length (part i) → n ≤ most_stages
      → joined (λ k. field_bytes (2 ∷ []) ((get_or (stages i n) k no_output).0 ∷ [])) n ≡ part i
  stages_read i n e few =
      entries_read (part i) (part_bytes i) (2 ∷ []) (λ k. (get_or (stages i n) k no_output).0 ∷ []) n e
      (λ k h room.
      (ap (λ o. o.0) (get_d_padded_in no_output (stage i) n most_stages no_output k h (omega arith)), tt))

  -- the numbers of entry k of section i
  abbrev numbers : ℕ → ℕ → List ℕ
  numbers i k = get_or (numbers_of case newest.0 k) i []

  section_read : (i : ℕ) → i < 5 → section_bytes case newest i ≡ part i
  unfolding section_bytes case_in entry_at field_at form_number_at
  section_read zero h =
      entries_read (part 0) (part_bytes 0) unit (numbers 0) 1 (part_length 0 h) (λ k few room. first k few)
    where
      unit : List ℕ
      unit = unit_widths ++ stage_widths

      first : (k : ℕ) → k < 1 → Matches unit (numbers 0 k) (part 0) (width unit * k)
      first zero few = (
        refl,
        (
          refl,
          (
            refl,
            (
              refl,
              (
                refl,
                (
                  refl,
                  (bits 0 12, (bits 0 16, (bits 0 20, (bits 0 24, (refl, (refl, (refl, (refl, tt)))))))),
                ),
              ),
            ),
          ),
        ),
      )
      first (suc k) few = absurd (omega arith)
  section_read (suc zero) h = stages_read 1 (entries_at form file 1) (part_length 1 h) (w.entries_in 1 h).1
  section_read (suc (suc zero)) h = stages_read 2 (entries_at form file 2) (part_length 2 h) (w.entries_in 2 h).1
  section_read (suc (suc (suc zero))) h =
      entries_read (part 3) (part_bytes 3) (4 ∷ 1 ∷ []) (numbers 3) (entries_at form file 3) (part_length 3 h)
      (λ k few room. (
        ap (λ m. unsigned m.0)
            (get_d_padded_in no_mills _ (entries_at form file 3) most_hours no_mills k few
            (omega (arith, w.entries_in 3 h)))
            ∙ bits 3 (5 * k),
        (get_d_padded_in 0 _ (entries_at form file 3) most_hours 0 k few (omega (arith, w.entries_in 3 h)), tt),
      ))
  section_read (suc (suc (suc (suc zero)))) h =
      entries_read (part 4) (part_bytes 4) (2 ∷ []) (numbers 4) 1 (part_length 4 h) (λ k few room. first k few)
    where
      first : (k : ℕ) → k < 1 → Matches (2 ∷ []) (newest.0 ∷ []) (part 4) (width (2 ∷ []) * k)
      first zero few = (sym number, tt)
      first (suc k) few = absurd (omega arith)
  section_read (suc (suc (suc (suc (suc i))))) h = absurd (omega arith)

  pub file_of_case_in : file_of case newest ≡ file
  unfolding file_of
  file_of_case_in =
      let first : take front file ≡ take (offset_at file 0) file = ap (λ n. take n file) (sym w.linked.first) in
      ap (λ s. s ++ joined (section_bytes case newest) 5) (pairs_read ∙ first)
      ∙ ap (λ s. take (offset_at file 0) file ++ s) (joined_same (section_bytes case newest) _ 5 section_read)
      ∙ sections_front w 4 (omega arith)
      ∙ ap (λ n. take n file) w.linked.end
      ∙ take_all (length file) file (omega arith)

-- ---- what is accepted
refused_not : (n : ℕ) → Refused n ≡ Accepted → ⊥
refused_not n e = let z : ◌≡◌ {A = ℕ} 0 1 = cc in omega arith

accepted_zero : (n : ℕ) (c : Case) → (reading_of n c).outcome ≡ Accepted → n ≡ 0
unfolding reading_of
accepted_zero n c e = go (eqb n 0) refl e
  where
    go : (t : Bool) → eqb n 0 ≡ t
        → (cond {A = Reading} t (record { outcome = Accepted; case = c })
        (record { outcome = Refused n; case = blank })).outcome ≡ Accepted → n ≡ 0
    go true d e = eqb-true n 0 d
    go false d e = absurd (refused_not n e)

pub record Read (file : List ℕ) : Type 0 where
  pub whole_file : Whole (form_of file) file
  pub form_known : refusal12 file ≡ false
  pub limited : refusal_of (case_of file) ≡ 0
  pub record_is : (read_of file).case ≡ case_of file

pub read_accepted : (file : List ℕ) → (read_of file).outcome ≡ Accepted → Read file
unfolding read_of first_of file_tests refusal_of reading_of
read_accepted file e =
    let z = accepted_zero (first_of (file_tests file)) (case_of file) e in
    let (a, r) = first_zero 0 (refusal1 file) _ z in
    let (b, s) = first_zero 1 (refusal2_file file) _ r in
    let (d, t) = first_zero 11 (refusal12 file) _ s in
    record { whole_file = whole file a b; form_known = d; limited = t; record_is = rw z }

-- the form number of a file that 12 does not refuse
pub number_known : (file : List ℕ) → (offset_at file 0 ≡ old_front → ⊥) → refusal12 file ≡ false
    → (form_number_at file ≡ form2.0) ⊎ (form_number_at file ≡ newest.0)
number_known file h e = unknown_false (form_number_at file) (sym (refusal12_late file h) ∙ e)

pub read_writes : (file : List ℕ) → AllBytes file → (read_of file).outcome ≡ Accepted → (offset_at file 0 ≡ old_front → ⊥)
    → form_number_at file ≡ newest.0 → file_of (read_of file).case newest ≡ file
unfolding case_of
read_writes file a e h n =
    let r = read_accepted file e in
    let is = form_of_new file h (λ z. omega (arith, n)) in
    rw (r.record_is, is) (file_of_case_in file (subst (λ f. Whole f file) is r.whole_file) a n)

pub read_limits : (file : List ℕ) → (read_of file).outcome ≡ Accepted → refusal_of (read_of file).case ≡ 0
read_limits file e = let r = read_accepted file e in rw r.record_is r.limited
