-- Laws of the tests of arrays, and of the first test that applies.
pub mod EveryLaws
pub mod FirstLaws
