pub mod lemmas
pub mod Pairs
pub mod Bits
pub mod Chosen
pub mod Made
pub mod Least
