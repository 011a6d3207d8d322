-- Lemmas that proofs of the crates above use.
pub mod PrefixLaws
pub mod LiteralLaws
pub mod Texts
pub mod Shrinking
pub mod File
