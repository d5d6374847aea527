-- The first i prices and order bytes are read, and those past them are zero.
use Rattle.cases.specs.Limits.{most_hours}
use Rattle.cases.specs.Layout.{no_mills}
use Rattle.cases.proofs.FilledLaws.{Filled}
use Rattle.reader.specs.Sections.{price_at, order_at}
use Rattle.reader.specs.Tables.{table_of}
use Rattle.reader.proofs.sections.read_day.Given as goal

abbrev pub invariant-loop-i : goal.invariant-loop-i
invariant-loop-i l =
    Filled no_mills (price_at (table_of l.form) l.part) l.count most_hours l.prices l.i
    × Filled 0 (order_at (table_of l.form) l.part) l.count most_hours l.orders l.i
