-- Laws of the marks of an hour, of running counts, of trajectories, and of sums.
pub mod MarkLaws
pub mod CountLaws
pub mod StartsLaws
pub mod MarkingLaws
pub mod ClosingLaws
pub mod StagedLaws
pub mod NumbersLaws
pub mod SumLaws
