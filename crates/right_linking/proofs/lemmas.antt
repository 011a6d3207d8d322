-- Lemmas that proofs of the crates above use.
pub mod AssembledNames
pub mod AssembledPlaces
pub mod AssembledChildren
pub mod SystemsUnder
pub mod ChildRows
pub mod OwnSlots
pub mod NamedFields
pub mod RootPaths
pub mod Executions
