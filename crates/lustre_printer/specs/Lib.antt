pub mod Printing
pub mod Scopes
pub mod PrintingExamples
