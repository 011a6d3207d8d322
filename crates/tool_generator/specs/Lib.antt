pub mod Draws
pub mod Texts
pub mod Models
pub mod ModelExamples
