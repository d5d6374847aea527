-- What an hour with its numbers is of. Definitions only. Assumes nothing.
use Rattle.std.specs.Prelude.{List, ℕ}
use Rattle.cases.specs.declared.Case.{Case}
use Rattle.hours.specs.declared.numbered.NumberedHour.{NumberedHour}

-- its case
abbrev pub case_of : NumberedHour → Case
case_of h = h.counts.case.now.case

-- its list
abbrev pub list_of : NumberedHour → List ℕ
list_of h = h.counts.list.now
