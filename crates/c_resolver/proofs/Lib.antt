pub mod FieldPlaces
pub mod Rows
pub mod ChoiceLaws
pub mod PureLaws
pub mod FieldLists
pub mod StructLaws
pub mod ProcedureLaws
