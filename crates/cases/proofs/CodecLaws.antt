-- What reading, admitting and writing answer, case by case. Assumes nothing.
use mathlib.Core.Path.{◌≡◌, ap, ◌∙◌}
use mathlib.Core.Bool.{Bool, true, false}
use mathlib.Core.List.{List, [], ◌∷◌}
use Prim.Native.Nat.{ℕ, ◌≤◌, ◌<◌}
use lib.Dec.{ltb}
use lib.ListN.{length}
use lib.Seq.{sets}
use borrow.Author.Tests.{lt-ltb, le-ltb, eq-eqb, ne_eqb}
use Rattle.cases.specs.declared.Case.{Case}
use Rattle.cases.specs.declared.Reading.{Reading}
use Rattle.cases.specs.Layout.{bytes_of, blank, zeroed, case_of}
use Rattle.cases.specs.Refusals.{refusal1, refusal2_file, refusal12, first_of, file_tests, refusal_of}
use Rattle.cases.specs.Reads.{reading_of, read_of, admit_of, write_of}
use Rattle.cases.proofs.RefusalsLaws.{first_of_tests}
use Rattle.cases.proofs.SetsLaws.{sets_front}
use Rattle.cases.specs.Reads.{Accepted, Refused}
use Rattle.quantities.specs.declared.Refusal.{Refusal}
use Rattle.std.specs.Prelude.{Ok, Err}

-- a refusal is told by its number
pub refused_by : {A : Type 0} (n : Refusal) (k : ℕ) → n.0 ≡ k → Err n ≡ Refused {A = A} k
refused_by n k e = ap Refused e

-- a refusal, beside the record of zeros; an accepted record
abbrev pub unread : ℕ → Reading
unread n = record { outcome = Refused n; case = blank }

abbrev pub taken : Case → Reading
taken c = record { outcome = Accepted; case = c }

module _ (n : ℕ) (c : Case) where
  pub reading_of_accepted : n ≡ 0 → taken c ≡ reading_of n c
  unfolding reading_of
  reading_of_accepted e = rw (eq-eqb n 0 e)

  pub reading_of_refused : (n ≡ 0 → ⊥) → unread n ≡ reading_of n c
  unfolding reading_of
  reading_of_refused h = rw (ne_eqb n 0 h)

module _ (file : List ℕ) where
  pub read_of_one : refusal1 file ≡ true → unread 1 ≡ read_of file
  unfolding read_of file_tests first_of reading_of
  read_of_one e = rw e

  pub read_of_two : refusal1 file ≡ false → refusal2_file file ≡ true → unread 2 ≡ read_of file
  unfolding read_of file_tests first_of reading_of
  read_of_two e d = rw (e, d)

  pub read_of_twelve : refusal1 file ≡ false → refusal2_file file ≡ false → refusal12 file ≡ true → unread 12 ≡ read_of file
  unfolding read_of file_tests first_of reading_of
  read_of_twelve e d t = rw (e, d, t)

  read_of_case : refusal1 file ≡ false → refusal2_file file ≡ false → refusal12 file ≡ false
      → reading_of (refusal_of (case_of file)) (case_of file) ≡ read_of file
  unfolding read_of file_tests first_of refusal_of
  read_of_case e d t = rw (e, d, t)

  pub read_of_refused : refusal1 file ≡ false → refusal2_file file ≡ false → refusal12 file ≡ false
      → (refusal_of (case_of file) ≡ 0 → ⊥) → unread (refusal_of (case_of file)) ≡ read_of file
  read_of_refused e d t h = reading_of_refused _ (case_of file) h ∙ read_of_case e d t

  pub read_of_accepted : refusal1 file ≡ false → refusal2_file file ≡ false → refusal12 file ≡ false
      → refusal_of (case_of file) ≡ 0 → taken (case_of file) ≡ read_of file
  read_of_accepted e d t z = reading_of_accepted _ (case_of file) z ∙ read_of_case e d t

module _ (c : Case) where
  pub admit_of_refused : (refusal_of c ≡ 0 → ⊥) → unread (refusal_of c) ≡ admit_of c
  unfolding admit_of
  admit_of_refused h = reading_of_refused (refusal_of c) (zeroed c) h

  pub admit_of_accepted : refusal_of c ≡ 0 → taken (zeroed c) ≡ admit_of c
  unfolding admit_of
  admit_of_accepted e = reading_of_accepted (refusal_of c) (zeroed c) e

module _ (c : Case) (lent : List ℕ) where
  abbrev short : List (ℕ × Bool)
  short = (10, ltb (length lent) (length (bytes_of c))) ∷ []

  pub write_of_refused : (refusal_of c ≡ 0 → ⊥)
      → record { answer = Refused (refusal_of c); lent = lent } ≡ write_of c lent
  unfolding write_of
  write_of_refused h =
      let e = ne_eqb (refusal_of c) 0 h in
      rw (first_of_tests c short, e, e)

  pub write_of_short : refusal_of c ≡ 0 → length lent < length (bytes_of c)
      → record { answer = Refused 10; lent = lent } ≡ write_of c lent
  unfolding write_of first_of
  write_of_short e h = rw (first_of_tests c short, e, lt-ltb (length lent) (length (bytes_of c)) h)

  pub write_of_done : refusal_of c ≡ 0 → length (bytes_of c) ≤ length lent
      → record { answer = Ok (length (bytes_of c)); lent = sets lent 0 (bytes_of c) } ≡ write_of c lent
  unfolding write_of first_of
  write_of_done e h =
      rw (first_of_tests c short, e, le-ltb (length lent) (length (bytes_of c)) h, sets_front (bytes_of c) lent h)
