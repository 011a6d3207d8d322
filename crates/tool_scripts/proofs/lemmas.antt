-- Lemmas that proofs of the crates above use.
pub mod CallWalk
pub mod PieceLaws
