-- Lemmas that proofs of the crates above use.
pub mod OneTree
pub mod Rows
pub mod Sections
