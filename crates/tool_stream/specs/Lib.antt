pub mod Walks
pub mod Files
