-- What `read`, `admit` and `write` answer and leave in lent memory, for every input (document 01, "Refusal list"), and
-- the papers' number and values of each answer. Definitions only. Assumes nothing.
use Rattle.std.specs.Prelude.{cond, List, [], ◌∷◌, ◌++◌, ℕ, ltb, eqb, length, drop, Result, Ok, Err, ⊤}
use Rattle.cases.specs.declared.Case.{Case}
use Rattle.cases.specs.declared.Reading.{Reading}
use Rattle.cases.specs.Layout.{blank, bytes_of, zeroed, case_of}
use Rattle.cases.specs.Refusals.{first_of, tests, file_tests}
use Rattle.cases.specs.Refusals.{refusal_of}
use Rattle.quantities.specs.declared.Refusal.{Refusal}

-- ---- what may be refused

-- an outcome is nothing more than accepted, or refused by a number
abbrev pub Outcome : Type 0
Outcome = Result ⊤ Refusal

abbrev pub Accepted : Outcome
Accepted = Ok tt

-- an answer refused by number n
abbrev pub Refused : {A : Type 0} → ℕ → Result A Refusal
Refused n = Err (record { 0 = n })

-- ---- what the calls answer and leave

-- refused by number n with the record of zeros, or, where n is 0, accepted with the record c
unfoldable pub reading_of : ℕ → Case → Reading
reading_of n c = cond (eqb n 0) (record { outcome = Accepted; case = c }) (record { outcome = Refused n; case = blank })

-- `read`: the tests of the file and of its record
unfoldable pub read_of : List ℕ → Reading
read_of file = reading_of (first_of (file_tests file)) (case_of file)

-- `admit`: the tests of a record; accepted, its entries past the counts are zero
unfoldable pub admit_of : Case → Reading
admit_of c = reading_of (refusal_of c) (zeroed c)

-- what `write` answers, and the lent bytes as it leaves them
pub record Writing : Type 0 where
  pub answer : Result ℕ Refusal
  pub lent : List ℕ

-- `write`: the tests of the record, then 10; the file's bytes come first, and those past them stay
unfoldable pub write_of : Case → List ℕ → Writing
write_of c lent =
    let n = first_of (tests c ((10, ltb (length lent) (length (bytes_of c))) ∷ [])) in
    let done : Writing =
    record { answer = Ok (length (bytes_of c)); lent = bytes_of c ++ drop (length (bytes_of c)) lent } in
    cond (eqb n 0) done (record { answer = Refused n; lent = lent })

-- ---- the papers' number of each answer, that of a refusal or 0, and its values, 0 where it has none
abbrev pub outcome_number : Outcome → ℕ
outcome_number (Ok tt) = 0
outcome_number (Err n) = n.0

-- how many bytes were written
abbrev pub written_numbers : Result ℕ Refusal → ℕ × ℕ
written_numbers (Ok n) = (0, n)
written_numbers (Err n) = (n.0, 0)
