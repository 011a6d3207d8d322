-- Lemmas that proofs of the crates above use.
pub mod SameTests
pub mod SimplifiedRefines
pub mod Parts
pub mod Measures
