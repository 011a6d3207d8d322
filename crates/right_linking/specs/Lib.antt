pub mod Parts
pub mod Places
pub mod Offers
pub mod Starts
pub mod Lives
pub mod Root
pub mod Whole
