pub mod Staying
pub mod Steps
pub mod Stepping
pub mod lemmas
