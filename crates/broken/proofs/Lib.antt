-- The rules of an hour by its numbers, and the first of them that fails.
pub mod FirstLaws
pub mod NumbersLaws
