pub mod Resolve
pub mod AlikeTexts
pub mod AlikeExamples
pub mod Reading
pub mod Gives
