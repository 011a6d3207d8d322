-- Lemmas that proofs of the crates above use.
pub mod Files
pub mod TraceTypes
pub mod StepTypes
