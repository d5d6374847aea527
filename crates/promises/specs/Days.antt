-- The twelve known days of document 01 as rows under one statement: the written case is read back and scheduled or
-- checked. Definitions only; the statement is proved in proofs/Days.
-- Assumes nothing.
use Rattle.std.specs.Prelude.{◌≡◌, List, [], ◌∷◌, map, ℕ, ℤ, pos, negsuc, length, replicate, Result, Ok, Err}
use Rattle.std.proofs.Math.Option.{Option, none, some}
use Rattle.cases.specs.declared.Case.{Case}
use Rattle.quantities.specs.declared.Output.{Output}
use Rattle.quantities.specs.declared.Mills.{Mills}
use Rattle.cases.specs.declared.Reading.{Reading}
use Rattle.cases.specs.declared.Verdict.{Verdict}
use Rattle.cases.specs.declared.Verdict.TheVariants.{Passes, Breaks}
use Rattle.cases.specs.Limits.{short_work}
use Rattle.cases.specs.Layout.{bytes_of}
use Rattle.model.specs.Answers.{Scheduling, check_of, schedule_of}
use Rattle.cases.specs.Reads.{read_of}
use Rattle.quantities.specs.declared.Refusal.{Refusal}
use Rattle.quantities.specs.declared.HalfMills.{HalfMills}

-- a list with its profit in half-mills, an hour with the rule broken there, or the number of a refusal
pub data Answer : Type 0 where
  earns : List ℕ → ℤ → Answer
  breaks : ℕ → ℕ → Answer
  refuses : ℕ → Answer

unfoldable pub of_verdict : List ℕ → Result Verdict Refusal → Answer
of_verdict l (Ok (Passes m)) = earns l m.0
of_verdict l (Ok (Breaks b)) = breaks b.hour.0 b.rule
of_verdict l (Err n) = refuses n.0

unfoldable pub of_plan : List ℕ → Result HalfMills Refusal → Answer
of_plan l (Ok m) = earns l m.0
of_plan l (Err n) = refuses n.0

unfoldable pub of_scheduling : Scheduling → Answer
of_scheduling s = of_plan s.outputs s.answer

unfoldable pub outputs : List ℕ → List Output
outputs l = map (λ x. record { 0 = x }) l

unfoldable pub mills : ℕ → Mills
mills n = record { 0 = pos n }

-- a day of the known unit with this minimum down time, p(0), h and the hours, each with its price and its order
unfoldable pub day_of : ℕ → ℕ → ℕ → List (ℕ × ℕ) → Case
day_of rest opening held day =
    record {
      capacity = record { 0 = 4 };
      minimum = record { 0 = 2 };
      rampup = record { 0 = 1 };
      rampdown = record { 0 = 1 };
      minup = record { 0 = 1 };
      mindown = record { 0 = rest };
      variable = mills 10;
      fixed = mills 1;
      startcost = mills 3;
      stopcost = mills 2;
      initial = record { 0 = opening };
      elapsed = record { 0 = held };
      upstage = 0;
      downstage = 0;
      rise = outputs (1 ∷ 2 ∷ []);
      fall = outputs (2 ∷ 1 ∷ []);
      prices = map (λ x. mills x.0) day;
      orders = map (λ x. x.1) day;
      rises = 2;
      falls = 2;
      hours = length day;
    }

-- case 7
unfoldable pub case7 : Case
case7 = day_of 1 3 2 ((5, 0) ∷ (5, 0) ∷ (5, 0) ∷ [])

-- a row: without a list the best day is asked for, with one its check
pub record Row : Type 0 where
  pub given : Case
  pub list : Option (List ℕ)
  pub expected : Answer

unfoldable pub best : Case → Answer → Row
best c a = record { given = c; list = none; expected = a }

unfoldable pub check : Case → List ℕ → Answer → Row
check c l a = record { given = c; list = some l; expected = a }

-- the answer to a row, lent just enough memory
unfoldable pub answer : Reading → ℕ → Option (List ℕ) → Answer
answer r n none = of_scheduling (schedule_of r.outcome r.case (replicate short_work (pos 7)) (replicate n 9))
answer r n (some l) = of_verdict l (check_of r.outcome r.case l)

-- the twelve known days, in document 01's order; 4 and 6 as request F-5 changes them
unfoldable pub known_days : List Row
known_days =
    best (day_of 1 0 2 ((10, 0) ∷ [])) (earns (0 ∷ []) (pos 0))
    ∷ best (day_of 1 0 2 ((18, 0) ∷ [])) (earns (0 ∷ []) (pos 0))
    ∷ best (day_of 1 0 2 ((19, 0) ∷ [])) (earns (1 ∷ []) (pos 1))
    ∷ best (day_of 1 2 2 ((10, 0) ∷ [])) (earns (1 ∷ []) (negsuc 1))
    ∷ best (day_of 1 2 2 ((5, 0) ∷ (5, 0) ∷ [])) (earns (1 ∷ 0 ∷ []) (negsuc 25))
    ∷ best (day_of 1 3 2 ((5, 0) ∷ (5, 0) ∷ [])) (earns (2 ∷ 1 ∷ []) (negsuc 43))
    ∷ best case7 (earns (2 ∷ 1 ∷ 0 ∷ []) (negsuc 52))
    ∷ best (day_of 1 0 2 ((10, 0) ∷ (10, 1) ∷ (10, 0) ∷ (10, 2) ∷ [])) (earns (1 ∷ 2 ∷ 1 ∷ 0 ∷ []) (negsuc 15))
    ∷ check (day_of 1 0 2 ((10, 0) ∷ [])) (2 ∷ []) (breaks 1 3)
    ∷ check (day_of 1 2 2 ((10, 0) ∷ [])) (4 ∷ []) (breaks 1 5)
    ∷ best (day_of 2 0 1 ((10, 1) ∷ [])) (refuses 11)
    ∷ best (day_of 1 0 2 ((10, 2) ∷ (10, 1) ∷ (10, 0) ∷ (10, 2) ∷ [])) (refuses 11)
    ∷ []

-- the answers to some rows, each from the file of its case, are those expected
abbrev pub Answered : List Row → Type 0
Answered rows = map (λ r. answer (read_of (bytes_of r.given)) r.given.hours r.list) rows
    ≡ map (λ r. r.expected) rows
