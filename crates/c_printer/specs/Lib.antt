pub mod Comments
pub mod Lines
pub mod Notes
pub mod Printing
pub mod VocabularyOf
pub mod Laws
pub mod PrintingExamples
pub mod NotesExamples
