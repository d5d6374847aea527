-- Laws that the proofs of the check share.
pub mod BreachLaws
