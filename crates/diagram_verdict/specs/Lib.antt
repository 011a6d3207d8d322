pub mod Files
pub mod Verdict
pub mod Faults
pub mod DelaySums
pub mod TreeVerdict
