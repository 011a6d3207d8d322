-- Lemmas that proofs of the crates above use.
pub mod Layouts
pub mod Links
