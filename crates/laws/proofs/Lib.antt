-- Laws that the kit's libraries lack.
pub mod Signed
pub mod Magnitude
pub mod RangeLaws
pub mod PlacedLaws
pub mod Tests
