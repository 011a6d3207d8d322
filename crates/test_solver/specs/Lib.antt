pub mod Values
pub mod Ticks
