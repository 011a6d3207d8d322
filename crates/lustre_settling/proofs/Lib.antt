pub mod lemmas
pub mod LongerTraces
pub mod WholeValues
