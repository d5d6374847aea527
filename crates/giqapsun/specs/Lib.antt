-- How the answers are laid out for C.
pub mod Boundary
