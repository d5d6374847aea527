-- Definitions that the contracts of the search of a case cite.
pub mod Searched
