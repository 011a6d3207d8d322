pub mod Causes
pub mod Depths
pub mod Waiting
