pub mod Texts
pub mod Ticks
pub mod Runs
pub mod Rows
pub mod Lines
pub mod Faults
pub mod Examples
