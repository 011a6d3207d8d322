pub mod lemmas
pub mod Lists
pub mod Walks
