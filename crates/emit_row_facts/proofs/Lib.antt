pub mod lemmas
mod ByPort
