-- Laws behind the slots.
pub mod Slots
pub mod Strides
pub mod SpannedLaws
