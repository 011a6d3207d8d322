pub mod Calls
pub mod Needed
pub mod Pruned
pub mod Laws
pub mod Marks
pub mod Examples
