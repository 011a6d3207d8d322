-- Lemmas that proofs of the crates above use.
pub mod Answers
pub mod Onward
pub mod Outcomes
pub mod Code
pub mod Programs
pub mod Composition
