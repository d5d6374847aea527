-- The case record, its limits and its file.
pub mod Limits
pub mod Symbols
pub mod Forms
pub mod Layout
pub mod Refusals
pub mod Reads
-- The same said a second way, and what holds of the definitions: to be read, not believed.
pub mod Published
pub mod Promises
