pub mod Soonest
pub mod Runs
