pub mod Value
pub mod Width
pub mod Meaning
pub mod Kinds
pub mod Limits
pub mod Evaluation
pub mod Laws
pub mod ValueExamples
