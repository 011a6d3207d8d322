pub mod FlowTraces
pub mod Runs
pub mod Faults
pub mod Lines
pub mod Examples
