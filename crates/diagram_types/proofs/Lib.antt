pub mod lemmas
pub mod PathLemmas
pub mod FaultLemmas
pub mod Countable
