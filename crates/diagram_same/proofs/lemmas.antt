-- Lemmas that proofs of the crates above use.
pub mod Ranges
pub mod Zips
pub mod Interiors
