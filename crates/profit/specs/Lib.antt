-- What the contracts on money speak of.
pub mod Worth
