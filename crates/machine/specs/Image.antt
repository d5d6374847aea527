-- The automaton's states as the machine's: hours off-line counted up to the minimum down time, hours to go before a
-- stop may begin, and entries counted from 0. Definitions only.
use Rattle.std.specs.Prelude.{List, [], ◌∷◌, ℕ, zero, suc, ◌+◌, ◌-◌, ◌≤◌, ◌<◌, min, ℤ, pos, ◌+ℤ◌}
use Rattle.cases.specs.declared.Case.{Case}
use Rattle.cases.specs.Symbols.{high, low, UD, DD}
use Rattle.machine.specs.declared.Rates.{Rates}
use Rattle.machine.specs.declared.State.{State}
use Rattle.machine.specs.declared.State.TheVariants.{Rise, Fall}
use Rattle.day.specs.Automaton.{St, off, up, run, down}
use Rattle.machine.specs.Cases.{tariff_at}
use Rattle.machine.specs.Moves.{idle, running, earn}

-- the machine's state of a state of the automaton
abbrev pub image : Case → St → State
image c (off d) = idle (min d c.mindown.0)
image c (up zero) = Rise 0
image c (up (suc i)) = Rise i
image c (run r w) = running r (c.minup.0 + 1 - (w + DD c))
image c (down zero) = Fall 0
image c (down (suc i)) = Fall i

-- the states that a day goes through
abbrev pub Good : Case → St → Type 0
Good c (off d) = Unit {0}
Good c (up i) = (1 ≤ i) × (i < UD c)
Good c (run r w) = (low c ≤ r) × (r ≤ high c)
Good c (down i) = (1 ≤ i) × (i ≤ DD c)

-- what a list earns from hour k on, hours from 0, after output q
abbrev pub profit_from : Case → Rates → List ℤ → ℕ → ℕ → List ℕ → ℤ
profit_from c r costs k q [] = pos 0
profit_from c r costs k q (p ∷ l) = earn (tariff_at c r costs k) q p +ℤ profit_from c r costs (suc k) p l
