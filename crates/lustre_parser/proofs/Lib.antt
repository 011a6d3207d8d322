pub mod Leads
pub mod Going
pub mod Levels
pub mod RightSides
