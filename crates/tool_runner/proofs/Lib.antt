pub mod lemmas
pub mod OutputLines
pub mod TickBounds
pub mod LineRows
pub mod Standings
pub mod Steps
pub mod Files
