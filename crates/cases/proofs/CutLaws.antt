-- The records beside an answer of `read` and `admit`: accepted, its arrays are cut at the counts and filled with zeros;
-- refused, it is all zeros. Assumes nothing.
use mathlib.Core.Path.{◌≡◌, refl, sym, ap, ◌∙◌, subst}
use mathlib.Core.Bool.{Bool, true, false, cond}
use mathlib.Core.List.{List}
use Prim.Native.Nat.{ℕ, zero, suc, ◌+◌, ◌-◌, ◌≤◌, ◌<◌}
use native.Mathlib.Omega.{arith}
use borrow.Author.Tests.{ltb-true, ltb-false}
use lib.Dec.{ltb}
use lib.ListN.{length, get_or, take, replicate, length-append, length-replicate, get_or-replicate, get_or-append}
use lib.Seq.{length-take-le, get_or-take, get_or-append-add}
use Rattle.cases.specs.declared.Case.{Case}
use Rattle.cases.specs.declared.Reading.{Reading}
use Rattle.cases.specs.Limits.{most_stages, most_hours}
use Rattle.cases.specs.Forms.{Form, form_numbered}
use Rattle.cases.specs.Layout.{number, number_at, offset_at, length_at, listed, padded, no_output, no_mills, signed}
use Rattle.cases.specs.Layout.{blank, zeroed, section_at, field_at, form_number_at, form_of, entries_at, entry_at}
use Rattle.cases.specs.Layout.{case_in, case_of}
use Rattle.cases.specs.Refusals.{refusal_of}
use Rattle.cases.specs.Reads.{reading_of, read_of, admit_of, outcome_number}
use Rattle.cases.specs.Published.{cut, Zeroed, AllZero, Stored}
use Rattle.cases.specs.Promises.{ReadsNone}
use Rattle.cases.proofs.LimitsLaws.{Limits, limits_of_refusal_of}
use Rattle.cases.proofs.LayoutLaws.{length_padded, get_d_padded_in, padded_same, padded_by}
use Rattle.cases.proofs.FormsLaws.{Known, four_sections, known}
use Rattle.cases.proofs.AcceptedLaws.{Whole, read_accepted}
use Rattle.cases.proofs.CodecLaws.{reading_of_refused, admit_of_accepted, admit_of_refused}
use Rattle.cases.specs.Reads.{Accepted, Refused}

-- ---- arrays
module _ {X : Type 0} (d : X) (l : List X) (n size : ℕ) (held : n ≤ length l) (room : n ≤ size) where
  length_cut : length (cut d size n l) ≡ size
  length_cut =
      omega (
        arith,
        length-append (take n l) (replicate (size - n) d),
        length-take-le n l held,
        length-replicate (size - n) d,
      )

  get_d_cut : (i : ℕ) → i < size → (t : Bool) → ltb i n ≡ t → get_or (cut d size n l) i d ≡ cond t (get_or l i d) d
  get_d_cut i h true e =
      let below = ltb-true i n e in
      get_or-append (take n l) (replicate (size - n) d) d i (omega (arith, length-take-le n l held))
      ∙ get_or-take n l i d below
  get_d_cut i h false e =
      let above = ltb-false i n e in
      let at : i ≡ length (take n l) + (i - n) = omega (arith, length-take-le n l held) in
      ap (λ j. get_or (cut d size n l) j d) at
      ∙ get_or-append-add (take n l) (replicate (size - n) d) (i - n) d
      ∙ get_or-replicate (size - n) (i - n) d d (omega arith)

  -- an array that is padded with a list's entries is the list's cut
  padded_cut : padded d (λ i. get_or l i d) n size ≡ cut d size n l
  padded_cut =
      sym (padded_by d d (λ i. get_or l i d) n size (cut d size n l) length_cut (λ i h. get_d_cut i h (ltb i n) refl))

-- padding an array once more changes nothing, and the array is its own cut
module _ {X : Type 0} (d : X) (f : ℕ → X) (n size : ℕ) (room : n ≤ size) where
  padded_twice : padded d (λ i. get_or (padded d f n size) i d) n size ≡ padded d f n size
  padded_twice = padded_same d _ f n size (λ i h. get_d_padded_in d f n size d i h (omega arith))

  padded_own : padded d f n size ≡ cut d size n (padded d f n size)
  padded_own =
      sym padded_twice
      ∙ padded_cut d (padded d f n size) n size (omega (arith, length_padded d f n size)) room

-- ---- records
-- a record whose arrays are padded at its counts already
zeroed_own : (c : Case) → padded no_output (λ i. get_or c.rise i no_output) c.rises most_stages ≡ c.rise
    → padded no_output (λ i. get_or c.fall i no_output) c.falls most_stages ≡ c.fall
    → padded no_mills (λ i. get_or c.prices i no_mills) c.hours most_hours ≡ c.prices
    → padded 0 (λ i. get_or c.orders i 0) c.hours most_hours ≡ c.orders → zeroed c ≡ c
unfolding zeroed
zeroed_own c r f p o = rw (r, f, p, o)

-- the record of a file has zeros past its counts
module _ (f : Form) (file : List ℕ) (known : Known file f) (whole : Whole f file) where
  rises_le : entries_at f file 1 ≤ most_stages
  rises_le = (whole.entries_in 1 (omega (arith, four_sections known))).1

  falls_le : entries_at f file 2 ≤ most_stages
  falls_le = (whole.entries_in 2 (omega (arith, four_sections known))).1

  hours_le : entries_at f file 3 ≤ most_hours
  hours_le = (whole.entries_in 3 (omega (arith, four_sections known))).1

  pub zeroed_case_in : zeroed (case_in f file) ≡ case_in f file
  unfolding case_in
  zeroed_case_in =
      zeroed_own (case_in f file)
      (padded_twice no_output _ (entries_at f file 1) most_stages rises_le)
      (padded_twice no_output _ (entries_at f file 2) most_stages falls_le)
      (padded_twice no_mills _ (entries_at f file 3) most_hours hours_le)
      (padded_twice 0 _ (entries_at f file 3) most_hours hours_le)

  case_in_view : Zeroed (case_in f file) (case_in f file)
  unfolding case_in
  case_in_view =
      record {
        unit = refl;
        costs = refl;
        rise = padded_own no_output _ (entries_at f file 1) most_stages rises_le;
        fall = padded_own no_output _ (entries_at f file 2) most_stages falls_le;
        prices = padded_own no_mills _ (entries_at f file 3) most_hours hours_le;
        orders = padded_own 0 _ (entries_at f file 3) most_hours hours_le;
      }

pub zeroed_case_of : (file : List ℕ) → Whole (form_of file) file → zeroed (case_of file) ≡ case_of file
unfolding case_of
zeroed_case_of file whole = zeroed_case_in (form_of file) file (known file) whole

case_of_view : (file : List ℕ) → Whole (form_of file) file → Zeroed (case_of file) (case_of file)
unfolding case_of
case_of_view file whole = case_in_view (form_of file) file (known file) whole

zeroed_view : (c : Case) → Limits c → Stored c → Zeroed c (zeroed c)
unfolding zeroed
zeroed_view c lim s =
    record {
      unit = refl;
      costs = refl;
      rise =
          padded_cut no_output c.rise c.rises most_stages (omega (arith, lim.rises_le, s.rise)) lim.rises_le;
      fall =
          padded_cut no_output c.fall c.falls most_stages (omega (arith, lim.falls_le, s.fall)) lim.falls_le;
      prices =
          padded_cut no_mills c.prices c.hours most_hours (omega (arith, lim.hours_le, s.prices)) lim.hours_le;
      orders = padded_cut 0 c.orders c.hours most_hours (omega (arith, lim.hours_le, s.orders)) lim.hours_le;
    }

-- what no bytes hold, field by field
abbrev pub zeros : Case
zeros =
    record {
      capacity = no_output;
      minimum = no_output;
      rampup = no_output;
      rampdown = no_output;
      minup = record { 0 = 0 };
      mindown = record { 0 = 0 };
      variable = no_mills;
      fixed = no_mills;
      startcost = no_mills;
      stopcost = no_mills;
      initial = no_output;
      elapsed = record { 0 = 0 };
      upstage = 0;
      downstage = 0;
      rise = replicate most_stages no_output;
      fall = replicate most_stages no_output;
      prices = replicate most_hours no_mills;
      orders = replicate most_hours 0;
      rises = 0;
      falls = 0;
      hours = 0;
    }

pub blank_zeros : zeros ≡ blank
unfolding blank case_of case_in form_of form_numbered form_number_at entries_at entry_at field_at section_at offset_at length_at
    number_at number padded listed signed
blank_zeros = refl

blank_view : AllZero blank
blank_view =
    subst AllZero blank_zeros
    (record { unit = refl; costs = refl; rise = refl; fall = refl; prices = refl; orders = refl })

-- ---- readings
reads_none : {n : ℕ} {r : Reading} → record { outcome = Refused n; case = blank } ≡ r → ReadsNone n r
reads_none {n} e = subst (ReadsNone n) e (record { number = refl; nothing = blank_view })

reading_none : (m n : ℕ) (c : Case) → (reading_of m c).outcome ≡ Refused n → ReadsNone n (reading_of m c)
unfolding reading_of
reading_none zero n c e = let z : ◌≡◌ {A = ℕ} 0 1 = cc in absurd (omega arith)
reading_none (suc m) n c e =
    let q = reading_of_refused (suc m) c (λ z. omega arith) in
    let o : Refused n ≡ Refused (suc m) = sym (ap (λ r. r.outcome) q ∙ e) in
    reads_none (ap (λ x. record { outcome = x; case = blank }) o ∙ q)

-- only an accepted reading has number 0
reading_accepted : (m : ℕ) (c : Case) → outcome_number (reading_of m c).outcome ≡ 0 → (reading_of m c).outcome ≡ Accepted
unfolding reading_of
reading_accepted zero c e = refl
reading_accepted (suc m) c e =
    let q = ap (λ r. outcome_number r.outcome) (reading_of_refused (suc m) c (λ z. omega arith)) in
    absurd (omega arith)

module _ (s : List ℕ) where
  pub unread : (n : ℕ) → (read_of s).outcome ≡ Refused n → ReadsNone n (read_of s)
  unfolding read_of
  unread n e = reading_none _ n (case_of s) e

  pub read_of_accepted : outcome_number (read_of s).outcome ≡ 0 → (read_of s).outcome ≡ Accepted
  unfolding read_of
  read_of_accepted e = reading_accepted _ (case_of s) e

  pub read_past : outcome_number (read_of s).outcome ≡ 0 → Zeroed (read_of s).case (read_of s).case
  read_past e =
      let r = read_accepted s (read_of_accepted e) in
      subst (λ d. Zeroed d d) (sym r.record_is) (case_of_view s r.whole_file)

module _ (c : Case) where
  pub admitted : Stored c → refusal_of c ≡ 0 → (outcome_number (admit_of c).outcome ≡ 0) × Zeroed c (admit_of c).case
  admitted s e =
      subst (λ r. (outcome_number r.outcome ≡ 0) × Zeroed c r.case)
      (admit_of_accepted c e)
      (refl, zeroed_view c (limits_of_refusal_of c e) s)

  pub unadmitted : (refusal_of c ≡ 0 → ⊥) → ReadsNone (refusal_of c) (admit_of c)
  unadmitted h = reads_none (admit_of_refused c h)
