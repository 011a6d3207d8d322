pub mod lemmas
pub mod PartlyMapped
pub mod Rows
