-- Definitions that the contracts of the slots cite.
pub mod Saved
pub mod Spanned
