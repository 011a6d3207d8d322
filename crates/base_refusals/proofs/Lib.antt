pub mod lemmas
pub mod PhraseLaws
