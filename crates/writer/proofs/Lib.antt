-- Laws of what the crate writes.
pub mod BytesLaws
pub mod SectionsLaws
