pub mod Outports
pub mod HeldNames
pub mod PartNumbers
pub mod SystemNames
pub mod InSystem
pub mod NamesHeld
pub mod DistinctNames
pub mod ExpectedValues
