pub mod Also
pub mod Placed
pub mod RowParts
pub mod SystemScopes
