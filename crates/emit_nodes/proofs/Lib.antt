pub mod lemmas
mod TakenSteps
