pub mod TypeTexts
pub mod TypeTextExamples
