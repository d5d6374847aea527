-- What the contracts inside the check speak of.
pub mod Found
