pub mod lemmas
pub mod TypedRuns
