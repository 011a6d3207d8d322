-- Lemmas that proofs of the crates above use.
pub mod OneByOne
pub mod TwoLists
pub mod Depths
