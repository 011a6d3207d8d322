pub mod Resolved
pub mod RowLists
pub mod RowInputs
pub mod Controls
pub mod Systems
pub mod Rounds
pub mod Runs
