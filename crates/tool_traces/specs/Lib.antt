pub mod Lines
pub mod Fields
pub mod Rows
pub mod Pieces
pub mod Examples
