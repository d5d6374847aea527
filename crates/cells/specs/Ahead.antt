-- What the search looks ahead at, in the words of the rules: the tariff of an hour, and of each hour of a day.
-- Definitions only. Assumes nothing.
use Rattle.std.specs.Prelude.{ℕ}
use Rattle.machine.specs.Moves.{Tariff, tariff_of, day_of}
use Rattle.cells.specs.declared.ahead.HourAhead.{HourAhead}
use Rattle.cells.specs.declared.ahead.DayAhead.{DayAhead}

-- what the hour pays and asks
abbrev pub tariff : HourAhead → Tariff
tariff h = tariff_of h.terms h.costs.now

-- what each hour of the day pays and asks
abbrev pub tariffs : DayAhead → ℕ → Tariff
tariffs d = day_of d.margins.now d.orders.now d.charges d.costs.now
