-- What a wrapped number has room for.
pub mod Widths
