-- Laws of what reading, admitting and writing answer and leave, in the sets that their proofs take.
pub mod ReadsLaws
