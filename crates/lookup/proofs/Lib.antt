-- Laws behind the choice of an hour.
pub mod AheadLaws
