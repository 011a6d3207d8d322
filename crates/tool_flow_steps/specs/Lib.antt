pub mod FlowParts
