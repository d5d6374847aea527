-- What holds of the limits, of the case file and of its record, one field for each promise; proofs/Promises proves them
-- all. Definitions only. Assumes nothing.
use Rattle.std.specs.Prelude.{◌≡◌, ◌↔◌, List, ◌++◌, ℕ, ◌+◌, ◌*◌, ◌-◌, ◌≤◌, ◌<◌, pos, length, get_or, take, drop}
use Rattle.std.specs.Prelude.{◌≤ℤ◌, Ok}
use Rattle.cases.specs.declared.Case.{Case}
use Rattle.cases.specs.declared.Reading.{Reading}
use Rattle.cases.specs.Forms.{old_form, form2}
use Rattle.cases.specs.Layout.{AllBytes, no_mills, file_of, zeroed}
use Rattle.cases.specs.Refusals.{work_length, refusal_of}
use Rattle.cases.specs.Reads.{Writing, read_of, admit_of, write_of}
use Rattle.cases.specs.Reads.{outcome_number, written_numbers}
use Rattle.cases.specs.Published.{Limited, FirstRefused, record_order, file_order, word, Holds, FileLimited}
use Rattle.cases.specs.Published.{LimitedBefore, NoLonger, FileLimitedBefore, WorksIn, Zeroed, AllZero, Stored}
use Rattle.cases.specs.Reads.{Accepted, Refused}

-- a reading is refused by n, beside a record of zeros
pub record ReadsNone (n : ℕ) (r : Reading) : Type 0 where
  pub number : outcome_number r.outcome ≡ n
  pub nothing : AllZero r.case

-- a file of form 3
pub record IsForm3 (s : List ℕ) : Type 0 where
  pub first : word s 0 ≡ 20
  pub number : word s (length s - 2) ≡ 3

-- a record within the limits is written: its file of form 3 first, the bytes past it as lent
pub record WritesFile (c : Case) (lent : List ℕ) (w : Writing) : Type 0 where
  pub numbers : written_numbers w.answer ≡ (0, 56 + 2 * c.rises + 2 * c.falls + 5 * c.hours)
  pub form : IsForm3 (take (written_numbers w.answer).1 w.lent)
  pub file : Holds (take (written_numbers w.answer).1 w.lent) c
  pub beyond : drop (written_numbers w.answer).1 w.lent ≡ drop (written_numbers w.answer).1 lent

-- a writing is refused by n, and the lent bytes stay
pub record WritesNone (n : ℕ) (lent : List ℕ) (w : Writing) : Type 0 where
  pub numbers : written_numbers w.answer ≡ (n, 0)
  pub untouched : w.lent ≡ lent

pub record Promises : Type 0 where
  -- ---- limits and layout
  -- the refusal of a record is the first number whose published limits it does not keep, and that of a file likewise
  pub limits : (c : Case) (n : ℕ) → (refusal_of c ≡ n) ↔ FirstRefused (Limited c) record_order n
  pub file_limits : (s : List ℕ) (n : ℕ)
      → (outcome_number (read_of s).outcome ≡ n) ↔ FirstRefused (FileLimited s) file_order n
  -- what is admitted without request F-6, with hours to 48 and minimum times to 8, is admitted, and its search works in
  -- 8,192 numbers; a record with no more hours and no longer times has the refusal that it has there; rules, profit and
  -- the best list know no limit
  pub admitted_before : (c : Case) → FirstRefused (LimitedBefore c) record_order 0
      → (refusal_of c ≡ 0) × (work_length c ≡ 8192)
  pub refused_before : (c : Case) (n : ℕ) → NoLonger c
      → (refusal_of c ≡ n) ↔ FirstRefused (LimitedBefore c) record_order n
  pub read_before : (s : List ℕ) → FirstRefused (FileLimitedBefore s) file_order 0
      → ((read_of s).outcome ≡ Accepted) × (work_length (read_of s).case ≡ 8192)
  -- how many numbers a search works in
  pub working : (c : Case) (n : ℕ) → (work_length c ≡ n) ↔ WorksIn c n
  -- a file that is read holds its record, whose entries past the counts are zero; a refused one gives a record of zeros
  pub read_holds : (s : List ℕ) → outcome_number (read_of s).outcome ≡ 0 → Holds s (read_of s).case
  pub read_past : (s : List ℕ) → outcome_number (read_of s).outcome ≡ 0 → Zeroed (read_of s).case (read_of s).case
  pub unread : (s : List ℕ) (n : ℕ) → (read_of s).outcome ≡ Refused n → ReadsNone n (read_of s)
  -- a record that is admitted comes back with the entries past its counts zero; a refused one as a record of zeros
  pub admitted : (c : Case) → Stored c → refusal_of c ≡ 0
      → (outcome_number (admit_of c).outcome ≡ 0) × Zeroed c (admit_of c).case
  pub unadmitted : (c : Case) → (refusal_of c ≡ 0 → ⊥) → ReadsNone (refusal_of c) (admit_of c)
  -- a record within the limits is written where its bytes have room; 10 exactly where they have none
  pub written : (c : Case) (lent : List ℕ) → refusal_of c ≡ 0
      → 56 + 2 * c.rises + 2 * c.falls + 5 * c.hours ≤ length lent → WritesFile c lent (write_of c lent)
  pub unwritten : (c : Case) (lent : List ℕ) → refusal_of c ≡ 0
      → length lent < 56 + 2 * c.rises + 2 * c.falls + 5 * c.hours → WritesNone 10 lent (write_of c lent)
  pub refused_writing : (c : Case) (lent : List ℕ) → (refusal_of c ≡ 0 → ⊥)
      → WritesNone (refusal_of c) lent (write_of c lent)
  -- the bytes that `write` left, read back, give the record with the entries past its counts zero
  pub written_reads : (c : Case) (lent : List ℕ) → (written_numbers (write_of c lent).answer).0 ≡ 0
      → read_of (take (written_numbers (write_of c lent).answer).1 (write_of c lent).lent)
      ≡ record { outcome = Accepted; case = zeroed c }
  -- the record that `read` gave, written where its bytes have room, gives the file, if that is of form 3
  pub read_writes : (s : List ℕ) → (read_of s).outcome ≡ Accepted → (lent : List ℕ) → AllBytes s → IsForm3 s
      → length s ≤ length lent
      → write_of (read_of s).case lent ≡ record { answer = Ok (length s); lent = s ++ drop (length s) lent }
  -- and, read again, an equal record, of whatever form the file is
  pub read_again : (s : List ℕ) → (read_of s).outcome ≡ Accepted → (lent : List ℕ)
      → (written_numbers (write_of (read_of s).case lent).answer).0 ≡ 0
      → read_of (take (written_numbers (write_of (read_of s).case lent).answer).1 (write_of (read_of s).case lent).lent)
      ≡ read_of s
  -- every price of an old file keeps its value, and the old file of a record without stages whose prices have room in
  -- it is read as that record, and so is that of form 2
  pub old_prices : (s : List ℕ) → (read_of s).outcome ≡ Accepted → AllBytes s → word s 0 ≡ 16 → (i : ℕ)
      → i < (read_of s).case.hours → (get_or (read_of s).case.prices i no_mills).0 ≡ pos (word s (word s 12 + 3 * i))
  pub old_reads : (c : Case) → refusal_of c ≡ 0 → c.upstage ≡ 0 → c.downstage ≡ 0
      → ((i : ℕ) → i < c.hours
      → (pos 0 ≤ℤ (get_or c.prices i no_mills).0) × ((get_or c.prices i no_mills).0 ≤ℤ pos 65535))
      → read_of (file_of c old_form) ≡ record { outcome = Accepted; case = zeroed c }
  pub form2_reads : (c : Case) → refusal_of c ≡ 0 → c.upstage ≡ 0 → c.downstage ≡ 0
      → read_of (file_of c form2) ≡ record { outcome = Accepted; case = zeroed c }
