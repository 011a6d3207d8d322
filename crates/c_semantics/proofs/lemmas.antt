-- Lemmas that proofs of the crates above use.
pub mod Runs
pub mod LinesAside
pub mod CellLaws
pub mod RunLaws
pub mod EvaluationLaws
pub mod WithoutSteps
pub mod CallLaws
pub mod NumberingLaws
pub mod FieldNumbers
