pub mod Inlined
pub mod Laws
pub mod Steps
pub mod Examples
