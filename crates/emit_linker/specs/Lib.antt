pub mod Places
pub mod Linked
pub mod Ports
pub mod Roots
pub mod Children
