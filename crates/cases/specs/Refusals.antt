-- The refusal list of document 01 and of requests F-2, F-5 and F-6, one test for each number; the first that applies is
-- returned. 11 is answered by a search that finds no list (Answers, `planned`). Definitions only. Assumes nothing.
use Rattle.std.specs.Prelude.{Bool, ◌&&◌, ◌||◌, not, cond, List, [], ◌∷◌, ℕ, suc, ◌+◌, ◌*◌, ◌-◌, ◌/◌, leb, ltb, eqb}
use Rattle.std.specs.Prelude.{ℤ, pos, neg_ℤ, length, get_or}
use Rattle.std.specs.Int.Signed.{le_z}
use Rattle.cases.specs.declared.Case.{Case}
use Rattle.cases.specs.Limits.{most_stages, most_hours, most_output, most_time, most_elapsed, most_variable}
use Rattle.cases.specs.Limits.{most_charge, most_price, most_order, short_time, short_work, long_work}
use Rattle.cases.specs.Symbols.{every, before, high, low, RU, RD, up_time, down_time, UD, DD, PU, PD, last}
use Rattle.cases.specs.Symbols.{F, A, B, C, price, order, p0, h, up_stage, down_stage}
use Rattle.cases.specs.Forms.{Form, old_form, numbered, unknown, most_entries, entry_length, pairs_length}
use Rattle.cases.specs.Layout.{offset_at, length_at, end_at, form_number_at, form_of, case_of}

-- lo ≤ x ≤ hi
abbrev pub within : ℕ → ℕ → ℕ → Bool
within lo hi x = leb lo x && leb x hi

-- the same of amounts
abbrev pub amounts : ℤ → ℤ → ℤ → Bool
amounts lo hi x = le_z lo x && le_z x hi

-- so many bytes are 1 to `most` entries of this size
unfoldable pub fits : ℕ → ℕ → ℕ → Bool
fits size most bytes = eqb (size * (bytes / size)) bytes && within 1 most (bytes / size)

module _ (file : List ℕ) where
  -- the file has no room for the pairs of its form, or its sections do not follow one another from there to its end
  unfoldable pub refusal1 : Bool
  refusal1 =
      let n = length (form_of file) in
      not
      (leb (4 * n) (length file)
      && (eqb (offset_at file 0) (4 * n)
      && (every (λ i. eqb (offset_at file i) (end_at file (before i))) (before n)
      && eqb (end_at file (before n)) (length file))))

  -- section i is of 1 to as many entries as there may be
  abbrev pub fitting : Form → ℕ → Bool
  fitting f i = fits (entry_length f i) (get_or most_entries i 0) (length_at file i)

  -- a section length
  unfoldable pub refusal2_file : Bool
  refusal2_file = let f = form_of file in not (every (λ i. fitting f (before i)) (length f))

  -- a form number that no form has
  unfoldable pub refusal12 : Bool
  refusal12 = not (eqb (offset_at file 0) (pairs_length old_form.1)) && unknown numbered (form_number_at file)

module _ (c : Case) where
  -- of a record: a count
  unfoldable pub refusal2 : Bool
  refusal2 = not (within 1 most_stages (UD c) && (within 1 most_stages (DD c) && within 1 most_hours (last c)))

  -- minimum output and capacity
  unfoldable pub refusal3 : Bool
  refusal3 = not (within 1 (high c) (low c) && leb (high c) most_output)

  -- ramps and minimum times
  unfoldable pub refusal4 : Bool
  refusal4 =
      not
      (within 1 most_output (RU c)
      && (within 1 most_output (RD c) && (within 1 most_time (up_time c) && within 1 most_time (down_time c))))

  -- costs: F, A, B and C are not from 0 to their limit
  unfoldable pub refusal5 : Bool
  refusal5 =
      let charged = amounts (pos 0) (pos most_charge) in
      not (amounts (pos 0) (pos most_variable) (F c) && (charged (A c) && (charged (B c) && charged (C c))))

  -- PU rises strictly from 1 or more to the minimum output, PD falls strictly from it to 1 or more
  unfoldable pub climbs : Bool
  climbs = leb 1 (PU c 1) && (every (λ i. ltb (PU c i) (PU c (suc i))) (UD c - 1) && eqb (PU c (UD c)) (low c))

  unfoldable pub descends : Bool
  descends = eqb (PD c 1) (low c) && (every (λ i. ltb (PD c (suc i)) (PD c i)) (DD c - 1) && leb 1 (PD c (DD c)))

  unfoldable pub refusal6 : Bool
  refusal6 = not (climbs && descends)

  -- the day opens in no sequence: p(0) is 0, or from minimum to capacity with h of UD or more
  unfoldable pub opens_free : Bool
  opens_free =
      eqb (up_stage c) 0
      && (eqb (down_stage c) 0 && (eqb (p0 c) 0 || within (low c) (high c) (p0 c) && leb (UD c) (h c)))

  -- in a start-up, at a stage below UD: p(0) is that stage's output, and h is the stage
  unfoldable pub opens_up : Bool
  opens_up =
      eqb (down_stage c) 0
      && (within 1 (UD c - 1) (up_stage c) && (eqb (p0 c) (PU c (up_stage c)) && eqb (h c) (up_stage c)))

  -- in a shut-down, at a stage from 2 to DD: p(0) is that stage's output, and h is UD + stage − 1 or more
  unfoldable pub opens_down : Bool
  opens_down =
      eqb (up_stage c) 0
      && (within 2 (DD c) (down_stage c)
      && (eqb (p0 c) (PD c (down_stage c)) && leb (UD c + down_stage c - 1) (h c)))

  -- h, and the opening: in no sequence, in a start-up or in a shut-down
  unfoldable pub refusal7 : Bool
  refusal7 = not (within 1 most_elapsed (h c) && (opens_free || (opens_up || opens_down)))

  -- an order byte above 2, among those of the day
  unfoldable pub refusal8 : Bool
  refusal8 = not (every (λ k. leb (order c k) most_order) (last c))

  -- a price of the day out of its range
  unfoldable pub refusal13 : Bool
  refusal13 = not (every (λ k. amounts (neg_ℤ (pos most_price)) (pos most_price) (price c k)) (last c))

  -- a list that is not of T outputs
  unfoldable pub refusal9 : List ℕ → Bool
  refusal9 l = not (eqb (length l) (last c))

  -- how many numbers a search works in, by the minimum times
  unfoldable pub work_length : ℕ
  work_length = cond (leb (up_time c) short_time && leb (down_time c) short_time) short_work long_work

  -- lent to a search: too few numbers to work in, or too few outputs
  unfoldable pub refusal10 : ℕ → ℕ → Bool
  refusal10 work outputs = ltb work work_length || ltb outputs (last c)

-- the first number whose test applies; 0 where none does
unfoldable pub first_of : List (ℕ × Bool) → ℕ
first_of [] = 0
first_of (t ∷ ts) = cond t.1 t.0 (first_of ts)

-- the tests of a record, 2 to 8 and 13, and then further ones
unfoldable pub tests : Case → List (ℕ × Bool) → List (ℕ × Bool)
tests c more =
    (2, refusal2 c) ∷ (3, refusal3 c) ∷ (4, refusal4 c) ∷ (5, refusal5 c) ∷ (6, refusal6 c) ∷ (7, refusal7 c)
    ∷ (8, refusal8 c) ∷ (13, refusal13 c) ∷ more

-- the tests of a file: 1, 2 and 12, and then those of its record
unfoldable pub file_tests : List ℕ → List (ℕ × Bool)
file_tests file = (1, refusal1 file) ∷ (2, refusal2_file file) ∷ (12, refusal12 file) ∷ tests (case_of file) []

-- the refusal of a record; 0 where it is within the limits
unfoldable pub refusal_of : Case → ℕ
refusal_of c = first_of (tests c [])
