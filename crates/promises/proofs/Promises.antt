-- Every promise of specs/Promises, each by its law. Assumes nothing.
use Rattle.promises.specs.Promises.{Promises}
use Rattle.promises.proofs.BothLaws.{both_profits}
use Rattle.promises.proofs.NextLaws.{next_opens, back_to_back}
use Rattle.promises.proofs.ForecastLaws.{forecast, calendar_forecast, curve_forecast}
use Rattle.promises.proofs.Days.{known_days_answered, case7_old, case7_pairs, case7_text}
use Rattle.cases.proofs.Promises as cases
use Rattle.day.proofs.Promises as day
use Rattle.model.proofs.Promises as model

pub promises : Promises
promises =
    record {
      cases = cases.promises;
      day = day.promises;
      model = model.promises;
      case7_old = case7_old;
      case7_pairs = case7_pairs;
      next_opens = next_opens;
      back_to_back = λ c l m prices orders n a b room e f. back_to_back c l prices orders n a b m room e f;
      both_profits = both_profits;
      forecast = forecast;
      calendar_forecast = calendar_forecast;
      curve_forecast = λ k c table work outputs good. curve_forecast k good c table work outputs;
      case7_text = case7_text;
      known_days_answered = known_days_answered;
    }
