-- Laws that the proofs of the comparison share.
pub mod OrderLaws
