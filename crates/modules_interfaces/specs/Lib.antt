pub mod Interfaces
pub mod Needs
pub mod PortCounts
