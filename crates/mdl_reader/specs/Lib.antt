pub mod Faults
pub mod Forms
pub mod Building
pub mod Builders
pub mod Reading
