pub mod lemmas
pub mod BodyNames
pub mod Functions
