-- All that a reader has to believe of a cost curve, in the order in which it reads best.
pub mod Pattern
pub mod Cost
-- What holds of it: to be read, not believed.
pub mod Promises
