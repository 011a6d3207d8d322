pub mod OwnRows
pub mod Parts
pub mod Reads
pub mod States
pub mod Named
