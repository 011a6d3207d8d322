pub mod TokenLines
pub mod Pieces
