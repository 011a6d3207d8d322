-- Lemmas that proofs of the crates above use.
pub mod StepBounds
