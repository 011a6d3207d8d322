-- Lemmas that proofs of the crates above use.
pub mod RoundingLaws
pub mod ConversionLaws
pub mod GainLaws
