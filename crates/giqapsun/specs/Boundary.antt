-- The answers as structs of numbers, by the papers' number and values of each (model's specs/Answers and
-- specs/Compared), and the calls by a curve that is told by a number (request F-7): 16 where it tells none. Definitions
-- only. Assumes nothing.
use Rattle.std.specs.Prelude.{List, ℕ, ℤ, Result, Option, Some, None}
use Rattle.curve.specs.declared.Kind.{Kind}
use Rattle.curve.specs.Cost.{answer_of, lent_after}
use Rattle.cases.specs.declared.Case.{Case}
use Rattle.cases.specs.declared.Reading.{Reading}
use Rattle.cases.specs.declared.Verdict.{Verdict}
use Rattle.cases.specs.declared.Comparison.{Comparison}
use Rattle.model.specs.Answers.{Scheduling, verdict_numbers, plan_numbers}
use Rattle.cases.specs.Reads.{outcome_number, written_numbers}
use Rattle.model.specs.Compared.{comparison_numbers}
use Rattle.model.specs.Curves.{Filling, check_by_curve_of, schedule_by_curve_of}
use Rattle.giqapsun.specs.declared.GiqapsunReading.{GiqapsunReading}
use Rattle.giqapsun.specs.declared.GiqapsunWritten.{GiqapsunWritten}
use Rattle.giqapsun.specs.declared.GiqapsunVerdict.{GiqapsunVerdict}
use Rattle.giqapsun.specs.declared.GiqapsunPlan.{GiqapsunPlan}
use Rattle.giqapsun.specs.declared.GiqapsunChoice.{GiqapsunChoice}
use Rattle.cases.specs.Reads.{Accepted, Refused}
use Rattle.quantities.specs.declared.Refusal.{Refusal}
use Rattle.quantities.specs.declared.HalfMills.{HalfMills}

abbrev pub reading_out : Reading → GiqapsunReading
reading_out r = record { number = outcome_number r.outcome; case = r.case }

abbrev pub written_out : Result ℕ Refusal → GiqapsunWritten
written_out w = record { number = (written_numbers w).0; length = (written_numbers w).1 }

abbrev pub verdict_out : Result Verdict Refusal → GiqapsunVerdict
verdict_out v =
    record {
      number = (verdict_numbers v).0;
      hour = (verdict_numbers v).1;
      rule = (verdict_numbers v).2;
      profit = record { 0 = (verdict_numbers v).3 };
    }

abbrev pub plan_out : Result HalfMills Refusal → GiqapsunPlan
plan_out p = record { number = (plan_numbers p).0; profit = record { 0 = (plan_numbers p).1 } }

abbrev pub choice_out : Result Comparison Refusal → GiqapsunChoice
choice_out x =
    record {
      number = (comparison_numbers x).0;
      which = (comparison_numbers x).1;
      profit = record { 0 = (comparison_numbers x).2 };
    }

-- ---- by a curve
-- the table by itself: the number, and the lent numbers after it
abbrev pub table_by : Option Kind → List ℤ → Filling ℕ
table_by (Some k) table = record { answer = outcome_number (answer_of k table); table = lent_after k table }
table_by None table = record { answer = 16; table = table }

abbrev pub check_by : Option Kind → Case → List ℕ → List ℤ → Filling (Result Verdict Refusal)
check_by (Some k) c l table = check_by_curve_of k Accepted c l table
check_by None c l table = record { answer = Refused 16; table = table }

abbrev pub schedule_by : Option Kind → Case → List ℤ → List ℤ → List ℕ → Filling Scheduling
schedule_by (Some k) c table work outputs = schedule_by_curve_of k Accepted c table work outputs
schedule_by None c table work outputs =
    record { answer = record { answer = Refused 16; work = work; outputs = outputs }; table = table }
