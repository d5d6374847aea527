-- The check and the search by a boiler maker's cost curve (request F-7): profit by the curve's table, and what each
-- answers and leaves in lent memory, for every input. The curve and its table are those of crate curve. Definitions
-- only. Assumes nothing.
use Rattle.std.specs.Prelude.{Bool, ◌||◌, not, cond, List, [], ◌∷◌, ℕ, ltb, eqb, ℤ, pos, length, get_or, Result}
use Rattle.std.specs.Prelude.{Err, Ok}
use Rattle.curve.specs.declared.Kind.{Kind}
use Rattle.curve.specs.Cost.{costs_length, record_of, accepted, table_of, tabled}
use Rattle.cases.specs.declared.Case.{Case}
use Rattle.cases.specs.declared.Verdict.{Verdict}
use Rattle.day.specs.Rules.{breach}
use Rattle.day.specs.Profit.{profit_by}
use Rattle.model.specs.Best.{best_by}
use Rattle.cases.specs.Refusals.{refusal9, refusal10, first_of, tests}
use Rattle.model.specs.Answers.{judged, Scheduling, planned}
use Rattle.cases.specs.Reads.{Outcome, Refused}
use Rattle.quantities.specs.declared.Refusal.{Refusal}

-- what a call by a curve answers, and the lent numbers of the table as it leaves them
pub record Filling (A : Type 0) : Type 0 where
  pub answer : A
  pub table : List ℤ

module _ (k : Kind) where
  -- a coefficient that is not a number from 0 to the most
  unfoldable pub refusal16 : Bool
  refusal16 = not (accepted (record_of k))

  -- what a list earns by the table, in half-mills; a list that keeps the rules has no energy past it
  unfoldable pub earned_by : Case → List ℕ → ℤ
  earned_by c l = profit_by (λ n. get_or (table_of k) n (pos 0)) c l

  -- a check that is refused
  abbrev pub not_checked : ℕ → List ℤ → Filling (Result Verdict Refusal)
  not_checked n table = record { answer = Refused n; table = table }

  -- `check_by_curve` of a record: its tests, then 9, then 10 for the table, then the rules
  unfoldable pub checked_by : Case → List ℕ → List ℤ → Filling (Result Verdict Refusal)
  checked_by c l table =
      let n = first_of (tests c ((9, refusal9 c l) ∷ (10, ltb (length table) costs_length) ∷ [])) in
      let verdict : Filling (Result Verdict Refusal) =
      record { answer = judged (earned_by c l) (breach c l); table = tabled k table } in
      cond (eqb n 0) verdict (not_checked n table)

  abbrev pub check_read : Outcome → Case → List ℕ → List ℤ → Filling (Result Verdict Refusal)
  check_read (Ok tt) c l table = checked_by c l table
  check_read (Err n) c l table = not_checked n.0 table

  -- `check_by_curve`: 16 before any case; a refused reading stops the call
  unfoldable pub check_by_curve_of : Outcome → Case → List ℕ → List ℤ → Filling (Result Verdict Refusal)
  check_by_curve_of o c l table = cond refusal16 (not_checked 16 table) (check_read o c l table)

  -- a search that is refused
  abbrev pub not_searched : ℕ → List ℤ → List ℤ → List ℕ → Filling Scheduling
  not_searched n table work outputs =
      record { answer = record { answer = Refused n; work = work; outputs = outputs }; table = table }

  -- `schedule_by_curve` of a record: its tests, then 10 for table, working numbers and outputs, then 11, which fills
  -- the table too
  unfoldable pub scheduled_by : Case → List ℤ → List ℤ → List ℕ → Filling Scheduling
  scheduled_by c table work outputs =
      let short = ltb (length table) costs_length || refusal10 c (length work) (length outputs) in
      let n = first_of (tests c ((10, short) ∷ [])) in
      let plan : Filling Scheduling =
      record { answer = planned c (earned_by c) work outputs (best_by (earned_by c) c); table = tabled k table } in
      cond (eqb n 0) plan (not_searched n table work outputs)

  abbrev pub schedule_read : Outcome → Case → List ℤ → List ℤ → List ℕ → Filling Scheduling
  schedule_read (Ok tt) c table work outputs = scheduled_by c table work outputs
  schedule_read (Err n) c table work outputs = not_searched n.0 table work outputs

  -- `schedule_by_curve`: 16 before any case; a refused reading stops the call
  unfoldable pub schedule_by_curve_of : Outcome → Case → List ℤ → List ℤ → List ℕ → Filling Scheduling
  schedule_by_curve_of o c table work outputs =
      cond refusal16 (not_searched 16 table work outputs) (schedule_read o c table work outputs)
