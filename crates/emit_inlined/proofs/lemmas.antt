-- Lemmas that proofs of the crates above use.
pub mod KeptPlaces
pub mod CallCounts
pub mod AtPositions
pub mod PassedParams
pub mod MovedCode
pub mod LawfulMoved
pub mod Staying
