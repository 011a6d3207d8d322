pub mod lemmas
pub mod RowPasses
pub mod InputLaws
mod WrittenPrograms
