pub mod Placed
pub mod Found
pub mod RowNaming
pub mod Namings
pub mod PortKinds
pub mod Scopes
