-- Lemmas that proofs of the crates above use.
pub mod SameType
pub mod FollowedLemmas
pub mod PassLemmas
pub mod Accepted
