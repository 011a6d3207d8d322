pub mod Same
pub mod Interiors
pub mod Signatures
pub mod Compared
pub mod Classes
pub mod Laws
pub mod Examples
