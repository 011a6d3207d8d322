-- Lemmas that proofs of the crates above use.
pub mod Readings
pub mod ParsedFile
pub mod ReadTexts
