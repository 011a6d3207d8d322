-- Lemmas that proofs of the crates above use.
pub mod Resolved
pub mod NamedPlaces
pub mod Each
pub mod Fails
pub mod ParamLaws
pub mod SpelledWords
