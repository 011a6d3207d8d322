pub mod FormLemmas
pub mod SectionLemmas
pub mod LinesLemmas
pub mod TreeLemmas
pub mod ReaderLemmas
