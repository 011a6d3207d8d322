pub mod Words
pub mod WordsExamples
pub mod Program
pub mod ProgramExamples
