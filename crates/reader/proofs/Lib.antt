-- Laws of the crate's own definitions.
pub mod PairsLaws
pub mod SectionsLaws
pub mod TablesLaws
