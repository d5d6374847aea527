-- Definitions that the laws speak of.
pub mod Range
pub mod Placed
