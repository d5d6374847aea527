-- Definitions that the contracts of the calls by a cost curve cite.
pub mod Alike
pub mod Entered
pub mod Even
