-- Laws that the proofs of the orders share.
pub mod MarkedLaws
pub mod SurveyLaws
pub mod FillLaws
