-- Lemmas that proofs of the crates above use.
pub mod Given
pub mod Operators
pub mod FromC
pub mod RoundingPlaces
pub mod OneNumber
