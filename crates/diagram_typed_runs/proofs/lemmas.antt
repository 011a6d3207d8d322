-- Lemmas that proofs of the crates above use.
pub mod Copied
pub mod Evaluable
pub mod Kept
pub mod TraceRows
