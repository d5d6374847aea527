-- What the contracts on the numbers of an hour speak of.
pub mod Marked
pub mod Counted
pub mod Staged
pub mod Numbered
pub mod Of
