pub mod BackEnds
pub mod BackEndExamples
