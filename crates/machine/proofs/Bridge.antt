-- The rules of a case and the unit's machine: the case's unit fits, a step of the automaton is a move, a list earns its
-- profit, and the search finds the best list of the case.
pub mod CasesLaws
pub mod FitLaws
pub mod Stepped
pub mod Moved
pub mod Listed
pub mod Profits
pub mod Openings
pub mod Bests
