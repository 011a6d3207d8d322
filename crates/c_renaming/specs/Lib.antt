pub mod Renamed
pub mod Partly
