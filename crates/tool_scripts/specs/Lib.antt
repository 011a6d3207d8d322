pub mod Numbers
pub mod Calls
pub mod Scripts
pub mod Pieces
pub mod Examples
