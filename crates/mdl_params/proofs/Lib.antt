pub mod lemmas
pub mod FoundTexts
