pub mod Resolve
pub mod Reading
pub mod RuleExamples
