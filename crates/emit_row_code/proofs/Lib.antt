pub mod lemmas
pub mod IntegerProducts
pub mod RangeSteps
pub mod ExactLaws
pub mod TruthLaws
pub mod Terms
pub mod StatementRuns
