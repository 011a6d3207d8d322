pub mod Literals
pub mod LiteralExamples
