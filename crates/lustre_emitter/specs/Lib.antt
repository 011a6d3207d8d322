pub mod Listed
pub mod RootParts
pub mod Faults
