pub mod lemmas
pub mod FieldLaws
pub mod RowLaws
pub mod LineLaws
