pub mod Layout
pub mod Sources
pub mod Extents
