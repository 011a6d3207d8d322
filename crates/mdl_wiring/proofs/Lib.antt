pub mod PassLemmas
pub mod NameLemmas
pub mod SectionLemmas
pub mod InputLemmas
pub mod DoubleLemmas
pub mod LineLemmas
pub mod SourceLemmas
