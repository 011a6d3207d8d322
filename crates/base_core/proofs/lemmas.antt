-- Lemmas that proofs of the crates above use.
pub mod Different
pub mod Divisors
pub mod LeastMultiple
