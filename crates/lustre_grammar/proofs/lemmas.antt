-- Lemmas that proofs of the crates above use.
pub mod Taking
pub mod Forms
pub mod File
pub mod Continuing
