pub mod Scopes
pub mod Choices
pub mod Params
pub mod Fields
pub mod Programs
pub mod Bodies
