pub mod Refinement
pub mod Evaluations
pub mod Routines
pub mod Laws
