-- Two lists side by side (request F-1): which of them to offer, and the part of lent memory that is handed back. Each
-- list has the verdict of the check, and two that pass stand in the order of Best. Definitions only. Assumes nothing.
use Rattle.std.specs.Prelude.{Bool, cond, List, [], ℕ, ℤ, pos, Result, Ok, Err}
use Rattle.std.specs.Borrow.{Bor}
use Rattle.cases.specs.declared.Case.{Case}
use Rattle.cases.specs.declared.Verdict.{Verdict}
use Rattle.cases.specs.declared.Verdict.TheVariants.{Passes, Breaks}
use Rattle.cases.specs.declared.Comparison.{Comparison}
use Rattle.cases.specs.declared.Comparison.TheVariants.{First, Second, Neither}
use Rattle.day.specs.Profit.{profit_of}
use Rattle.model.specs.Best.{leads}
use Rattle.model.specs.Answers.{check_of}
use Rattle.cases.specs.Reads.{Outcome}
use Rattle.quantities.specs.declared.Refusal.{Refusal}

-- two lists by their verdicts: a refusal of either; else one that passes before one that does not; of two that pass the
-- first, unless the second comes before it
abbrev pub preferred : Bool → Result Verdict Refusal → Result Verdict Refusal → Result Comparison Refusal
preferred before (Err n) w = Err n
preferred before (Ok (Passes own)) (Err n) = Err n
preferred before (Ok (Passes own)) (Ok (Breaks d)) = Ok (First own)
preferred before (Ok (Passes own)) (Ok (Passes other)) = cond before (Ok (Second other)) (Ok (First own))
preferred before (Ok (Breaks b)) (Err n) = Err n
preferred before (Ok (Breaks b)) (Ok (Breaks d)) = Ok Neither
preferred before (Ok (Breaks b)) (Ok (Passes other)) = Ok (Second other)

-- `compare`: both lists are checked against the case; identical lists give the first, since none comes before itself
unfoldable pub compared_of : Outcome → Case → List ℕ → List ℕ → Result Comparison Refusal
compared_of o c l m = preferred (leads (profit_of c) m l) (check_of o c l) (check_of o c m)

-- the papers' number of the answer, that of a refusal or 0; which list it is, 1 or 2, or 0; its profit in half-mills
abbrev pub comparison_numbers : Result Comparison Refusal → ℕ × ℕ × ℤ
comparison_numbers (Ok (First earned)) = (0, 1, earned.0)
comparison_numbers (Ok (Second earned)) = (0, 2, earned.0)
comparison_numbers (Ok Neither) = (0, 0, pos 0)
comparison_numbers (Err n) = (n.0, 0, pos 0)

-- a part of lent memory: the block and the offset at which it begins, and its outputs
pub record Part : Type 0 where
  pub place : ℕ × ℕ
  pub outputs : List ℕ

-- the part that a slice refers to
abbrev pub part_of : Bor (List ℕ) → Part
part_of s = record { place = s.ref_ptr; outputs = s.now }

-- the part of the list that is offered, as it was lent; for neither and on a refusal the empty part of the first
abbrev pub handed : Part → Part → Result Comparison Refusal → Part
handed a b (Ok (First earned)) = a
handed a b (Ok (Second earned)) = b
handed a b (Ok Neither) = record { place = a.place; outputs = [] }
handed a b (Err n) = record { place = a.place; outputs = [] }

-- `better`: the part that is handed back
unfoldable pub better_of : Outcome → Case → Part → Part → Part
better_of o c a b = handed a b (compared_of o c a.outputs b.outputs)
