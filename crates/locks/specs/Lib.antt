-- Definitions that the contracts of the locks cite.
pub mod Locked
pub mod Held
