pub mod Solutions
pub mod SolutionExamples
pub mod Settling
pub mod LongerTraces
