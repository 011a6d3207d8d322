-- Lemmas that proofs of the crates above use.
pub mod Laying
pub mod Solving
pub mod Tables
pub mod Told
pub mod Flat
pub mod Least
