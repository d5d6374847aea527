-- What the table of a search rests on: its bounds, worths by their codes, choices over a range, the unit's choices and
-- what follows them, sizes.
pub mod BoundsLaws
pub mod CodedLaws
pub mod Spans
pub mod Overs
pub mod Choices
pub mod Sizes
pub mod Follows
pub mod Linear
