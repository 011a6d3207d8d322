pub mod lemmas
pub mod Members
pub mod SetSteps
pub mod ClusterSteps
