pub mod Laid
pub mod Parameters
pub mod Tables
