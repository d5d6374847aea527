-- Laws behind the contracts of the row step by a cost table.
pub mod OfferLaws
pub mod TopLaws
pub mod CutLaws
pub mod SweepLaws
pub mod SourceLaws
