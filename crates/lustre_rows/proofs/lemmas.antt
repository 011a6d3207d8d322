-- Lemmas that proofs of the crates above use.
pub mod Lists
pub mod ParamNames
pub mod Wires
pub mod RowFacts
pub mod Systems
pub mod SystemMembers
pub mod NamePlaces
pub mod CodeWalks
pub mod SimpleCodes
pub mod MemoryCodes
pub mod FunctionCalls
