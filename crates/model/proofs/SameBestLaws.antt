-- A case and the case with the entries past its counts zero have the same best day. Assumes nothing.
use mathlib.Core.Path.{◌≡◌}
use Rattle.cases.specs.declared.Case.{Case}
use Rattle.cases.specs.Symbols.{high, last}
use Rattle.model.specs.Best.{best_by, best_day}
use Rattle.cases.specs.Layout.{zeroed}
use Rattle.cases.specs.Published.{Counts}
use Rattle.model.proofs.TriedLaws.{best_of_same}
use Rattle.day.proofs.SameDayLaws.{keeps_zeroed, profit_of_zeroed}

module _ (c : Case) (room : Counts c) where
  pub best_day_zeroed : best_day (zeroed c) ≡ best_day c
  unfolding best_by best_day zeroed
  best_day_zeroed = best_of_same (keeps_zeroed c room) (profit_of_zeroed c room) (high c) (last c)
