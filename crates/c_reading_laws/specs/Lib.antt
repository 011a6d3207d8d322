pub mod Agreement
pub mod ReadText
pub mod ReadingExamples
pub mod FaultExamples
pub mod RoundsExamples
pub mod ReadTextExamples
pub mod ArrayFaults
