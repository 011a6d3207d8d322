pub mod Hulls
pub mod Searching
pub mod Feeding
pub mod Collecting
pub mod Bases
pub mod Lawful
pub mod Running
pub mod Inferred
