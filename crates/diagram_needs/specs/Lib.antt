pub mod Least
pub mod Needed
pub mod Levels
pub mod LeastPaths
pub mod Blocks
pub mod Falling
pub mod TrueNeeds
pub mod LoopLaws
