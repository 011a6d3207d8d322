pub mod Rules
pub mod Marks
pub mod Walks
pub mod Inferred
