pub mod lemmas
pub mod Calls
pub mod RowCodes
pub mod Controls
pub mod Activity
pub mod Rows
