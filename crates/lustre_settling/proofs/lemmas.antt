-- Lemmas that proofs of the crates above use.
pub mod Order
pub mod Monotone
pub mod Unfolded
pub mod Forms
pub mod Settled
pub mod Given
pub mod Solutions
pub mod Ranked
pub mod Stuck
pub mod Ordered
