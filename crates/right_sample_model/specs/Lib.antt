pub mod Rows
pub mod RichModel
