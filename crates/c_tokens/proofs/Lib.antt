pub mod TokenLines
pub mod Pieces
pub mod Numerals
pub mod Keywords
pub mod LastLine
pub mod Fewer
pub mod FewerDefinitions
pub mod Continuing
