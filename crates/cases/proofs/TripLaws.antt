-- What `write` leaves, and the round trips: the written bytes hold the record and are read back as it; the record of a
-- file of form 3 is written as that file, and that of any file is read again. Assumes nothing.
use mathlib.Core.Path.{◌≡◌, refl, sym, ap, ◌∙◌, subst}
use mathlib.Core.List.{List, ◌++◌}
use Prim.Native.Nat.{ℕ, ◌+◌, ◌*◌, ◌-◌, ◌^◌, ◌≤◌, ◌<◌}
use native.Mathlib.Omega.{arith}
use lib.Dec.{leb→le}
use lib.IntN.{ℤ, pos, negsuc}
use lib.ListN.{length, get_or, take, drop}
use lib.Seq.{take-append_seam, drop-append_seam}
use lib.Signed.{◌≤ℤ◌}
use Rattle.cases.specs.declared.Case.{Case}
use Rattle.quantities.specs.Widths.{words}
use Rattle.cases.specs.Forms.{stage_widths, old_form, newest, entry_length}
use Rattle.cases.specs.Layout.{AllBytes, no_mills, unsigned, zeroed, file_of, bytes_of}
use Rattle.cases.specs.Refusals.{refusal_of}
use Rattle.cases.specs.Reads.{Writing, read_of, write_of, outcome_number, written_numbers}
use Rattle.cases.specs.Published.{word, above, Holds}
use Rattle.cases.specs.Promises.{IsForm3, WritesFile, WritesNone}
use Rattle.cases.proofs.FormsLaws.{old_front, front}
use Rattle.cases.proofs.WrittenLaws.{length_file_of}
use Rattle.cases.proofs.RereadLaws.{numbered_length, new_first, new_number, new_reads}
use Rattle.cases.proofs.RereadLaws.{old_reads as file_of_reads}
use Rattle.cases.proofs.AcceptedLaws.{read_writes as file_of_read, read_accepted, read_limits}
use Rattle.cases.proofs.SetsLaws.{sets_front}
use Rattle.cases.proofs.CodecLaws.{write_of_refused, write_of_short, write_of_done}
use Rattle.cases.proofs.CutLaws.{zeroed_case_of}
use Rattle.cases.proofs.SameLimitsLaws.{signed_unique}
use Rattle.cases.proofs.PublishedLaws.{offset_word, last_bytes}
use Rattle.cases.proofs.HoldsLaws.{holds_bytes_of, read_holds}
use Rattle.cases.specs.Reads.{Accepted, Refused}
use Rattle.std.specs.Prelude.{Ok}

-- a file in front of the lent bytes, and nothing written
abbrev filed : List ℕ → List ℕ → Writing
filed file lent = record { answer = Ok (length file); lent = file ++ drop (length file) lent }

abbrev unfiled : ℕ → List ℕ → Writing
unfiled n lent = record { answer = Refused n; lent = lent }

unfiled_none : {n : ℕ} {lent : List ℕ} {w : Writing} → unfiled n lent ≡ w → WritesNone n lent w
unfiled_none {n} {lent} e = subst (WritesNone n lent) e (record { numbers = refl; untouched = refl })

-- the length of the file of a case
abbrev pub file_length : Case → ℕ
file_length c = front + entry_length newest.1 0 + 2 + 2 * c.rises + 2 * c.falls + 5 * c.hours

pub length_bytes_of : (c : Case) → length (bytes_of c) ≡ file_length c
length_bytes_of c = length_file_of c newest ∙ numbered_length c newest.0 stage_widths

module _ (c : Case) (lent : List ℕ) where
  write_of_filed : refusal_of c ≡ 0 → length (bytes_of c) ≤ length lent → write_of c lent ≡ filed (bytes_of c) lent
  write_of_filed e room =
      sym (write_of_done c lent e room)
      ∙ ap (λ l. record { answer = Ok (length (bytes_of c)); lent = l }) (sets_front (bytes_of c) lent room)

  form3 : refusal_of c ≡ 0 → IsForm3 (bytes_of c)
  form3 e =
      let held = holds_bytes_of c e in
      let first = sym (offset_word (bytes_of c) 0) ∙ new_first c e in
      record {
        first = first;
        number = sym (last_bytes (bytes_of c) held.chained held.measured.form first) ∙ new_number c e;
      }

  -- ---- what a writing leaves
  pub written : refusal_of c ≡ 0 → file_length c ≤ length lent → WritesFile c lent (write_of c lent)
  written e room =
      let b = bytes_of c in
      let rest = drop (length b) lent in
      subst (WritesFile c lent) (sym (write_of_filed e (omega (arith, length_bytes_of c))))
      (record {
        numbers = ap (λ n. (0, n)) (length_bytes_of c);
        form = subst IsForm3 (sym (take-append_seam b rest)) (form3 e);
        file = subst (λ l. Holds l c) (sym (take-append_seam b rest)) (holds_bytes_of c e);
        beyond = drop-append_seam b rest;
      })

  pub unwritten : refusal_of c ≡ 0 → length lent < file_length c
      → WritesNone 10 lent (write_of c lent)
  unwritten e short = unfiled_none (write_of_short c lent e (omega (arith, length_bytes_of c)))

  pub refused_writing : (refusal_of c ≡ 0 → ⊥) → WritesNone (refusal_of c) lent (write_of c lent)
  refused_writing h = unfiled_none (write_of_refused c lent h)

  -- ---- the round trip
  -- bytes were written: the record is within the limits, and they have room
  written_within : (written_numbers (write_of c lent).answer).0 ≡ 0 → refusal_of c ≡ 0
  written_within n =
      let above : 0 < refusal_of c → ⊥ =
      λ h. omega (arith, ap (λ t. t.0) (refused_writing (λ e. omega arith)).numbers) in
      omega arith

  written_room : (written_numbers (write_of c lent).answer).0 ≡ 0 → refusal_of c ≡ 0 → length (bytes_of c) ≤ length lent
  written_room n e =
      let short : length lent < length (bytes_of c) → ⊥ =
      λ h. omega (arith, ap (λ t. t.0) (unfiled_none (write_of_short c lent e h)).numbers) in
      omega arith

  pub written_reads : (written_numbers (write_of c lent).answer).0 ≡ 0
      → read_of (take (written_numbers (write_of c lent).answer).1 (write_of c lent).lent)
      ≡ record { outcome = Accepted; case = zeroed c }
  written_reads n =
      let e = written_within n in
      ap (λ w. read_of (take (written_numbers w.answer).1 w.lent)) (write_of_filed e (written_room n e))
      ∙ ap read_of (take-append_seam (bytes_of c) (drop (length (bytes_of c)) lent))
      ∙ new_reads c e

module _ (s : List ℕ) (accepted : (read_of s).outcome ≡ Accepted) where
  pub read_writes : (lent : List ℕ) → AllBytes s → IsForm3 s → length s ≤ length lent
      → write_of (read_of s).case lent ≡ record { answer = Ok (length s); lent = s ++ drop (length s) lent }
  read_writes lent a form room =
      let held = read_holds s (ap outcome_number accepted) in
      let number = last_bytes s held.chained held.measured.form form.first ∙ form.number in
      let b = file_of_read s a accepted (λ z. omega (arith, offset_word s 0, form.first)) number in
      write_of_filed (read_of s).case lent (read_limits s accepted) (omega (arith, ap length b))
      ∙ ap (λ file. filed file lent) b

  -- the record of a file has zeros past its counts
  zeroed_read : zeroed (read_of s).case ≡ (read_of s).case
  zeroed_read =
      let r = read_accepted s accepted in
      ap zeroed r.record_is ∙ zeroed_case_of s r.whole_file ∙ sym r.record_is

  pub read_again : (lent : List ℕ) → (written_numbers (write_of (read_of s).case lent).answer).0 ≡ 0
      → read_of (take (written_numbers (write_of (read_of s).case lent).answer).1 (write_of (read_of s).case lent).lent)
      ≡ read_of s
  read_again lent n =
      written_reads (read_of s).case lent n ∙ (λ i. record { outcome = sym accepted i; case = zeroed_read i })

  -- a price of an old file
  pub old_prices : AllBytes s → word s 0 ≡ old_front → (i : ℕ) → i < (read_of s).case.hours
      → (get_or (read_of s).case.prices i no_mills).0 ≡ pos (word s (word s 12 + 3 * i))
  old_prices a first i h =
      let at = word s 12 + 3 * i in
      signed_unique ((read_holds s (ap outcome_number accepted)).old_prices first i h)
      (above (omega (arith, a.byte at, a.byte (at + 1))))

-- a price from 0 to 65,535 has room in two bytes
short_price : (z : ℤ) → (pos 0 ≤ℤ z) × (z ≤ℤ pos (words - 1)) → unsigned z < 256 ^ 2
unfolding unsigned
short_price (pos n) h = omega (arith, leb→le n (words - 1) h.1.le)
short_price (negsuc n) h = absurd h.0.le

pub old_reads : (c : Case) → refusal_of c ≡ 0 → c.upstage ≡ 0 → c.downstage ≡ 0
    → ((i : ℕ) → i < c.hours
    → (pos 0 ≤ℤ (get_or c.prices i no_mills).0) × ((get_or c.prices i no_mills).0 ≤ℤ pos (words - 1)))
    → read_of (file_of c old_form) ≡ record { outcome = Accepted; case = zeroed c }
old_reads c e up down low =
    file_of_reads c e up down (λ k h. short_price (get_or c.prices k no_mills).0 (low k h))
