-- Lemmas that proofs of the crates above use.
pub mod DigitLaws
pub mod LowestTerms
pub mod NumberBounds
