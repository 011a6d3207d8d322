-- Lemmas that proofs of the crates above use.
pub mod Numbers
pub mod SameRuns
pub mod Flags
pub mod Places
