pub mod Turned
pub mod Uniform
pub mod Examples
