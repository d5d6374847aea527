-- What the contracts on the rules of an hour speak of.
pub mod Elapsed
pub mod Compared
pub mod Groups
