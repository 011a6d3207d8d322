-- Lemmas that proofs of the crates above use.
pub mod PlainLaws
pub mod NamePlaces
pub mod NameFacts
