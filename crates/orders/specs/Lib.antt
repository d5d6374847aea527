-- Definitions that the contracts of the crate's own functions cite.
pub mod Marked
