pub mod BlockTypes
pub mod Language
pub mod Defaults
pub mod Texts
pub mod Forms
pub mod Times
pub mod Examples
