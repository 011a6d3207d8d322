pub mod Traces
pub mod Fitting
pub mod TypedRuns
