pub mod Same
pub mod Kept
pub mod Simplified
pub mod Fused
pub mod Turned
pub mod Fusion
pub mod Laws
pub mod Examples
