pub mod TraceLaws
pub mod FlowLaws
