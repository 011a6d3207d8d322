-- Lemmas that proofs of the crates above use.
pub mod Waiting
pub mod FilePieces
pub mod WalkLaws
