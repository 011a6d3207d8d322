pub mod FlowLaws
pub mod Steps
pub mod Files
