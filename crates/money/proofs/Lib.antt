-- Laws of amounts.
pub mod OrderLaws
