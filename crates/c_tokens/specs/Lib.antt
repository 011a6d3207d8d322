pub mod Lines
pub mod Pieces
pub mod Numerals
pub mod Lists
