-- Every promise of specs/Promises, each by its law. Assumes nothing.
use Rattle.day.specs.Promises.{Promises}
use Rattle.cases.proofs.LimitsLaws.{limits_of_refusal_of}
use Rattle.day.proofs.CapacityLaws.{output_le}
use Rattle.day.proofs.WordsLaws.{starts, starts_back, stops}
use Rattle.day.proofs.KeptLaws.{kept, first_breach}
use Rattle.day.proofs.Automaton.Keeping.{keeps_runs}
use Rattle.day.proofs.SalesLaws.{profit_earned}
use Rattle.day.proofs.BeforeLaws.{kept_before}
use Rattle.day.proofs.PastLaws.{breach_append, profit_of_append}
use Rattle.day.proofs.CostLaws.{profit_by_earned, plain_table}

pub promises : Promises
promises =
    record {
      starts = starts;
      starts_back = starts_back;
      stops = stops;
      kept = kept;
      runs = λ c l e. keeps_runs c l (limits_of_refusal_of c e);
      kept_before = λ c l e u n K. kept_before c l (limits_of_refusal_of c e) u K n;
      first_breach = first_breach;
      profit = profit_earned;
      capacity = λ c l e. output_le c (limits_of_refusal_of c e) l;
      profit_by_earned = profit_by_earned;
      plain_table = plain_table;
      breach_append = breach_append;
      profit_append = profit_of_append;
    }
