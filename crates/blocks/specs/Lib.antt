-- Definitions that the contracts of the row step by a cost table cite.
pub mod Offers
pub mod Sweeps
pub mod Cuts
