pub mod lemmas
pub mod Answering
pub mod Words
pub mod Lists
pub mod Exprs
pub mod Equations
pub mod Nodes
