-- Lemmas that proofs of the crates above use.
pub mod SameSinks
pub mod TwoFiles
pub mod FileParts
pub mod RightStarts
pub mod Unsure
