-- Lemmas that proofs of the crates above use.
pub mod Bytes
pub mod Lookups
pub mod ItemTexts
