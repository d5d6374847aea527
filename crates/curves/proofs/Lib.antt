-- Laws behind the contracts of the calls by a cost curve.
pub mod SplitLaws
pub mod DayLaws
pub mod FilledLaws
pub mod EnteredLaws
