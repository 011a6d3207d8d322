pub mod Steps
pub mod Walks
pub mod Tables
pub mod Nesting
pub mod Parts
pub mod Laws
pub mod PortLaws
pub mod WireLaws
