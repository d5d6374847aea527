-- Any machine: backward induction finds the best list, and the worth of a state hour by hour.
pub mod Searched
pub mod Values
