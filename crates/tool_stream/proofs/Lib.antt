pub mod lemmas
pub mod Causes
pub mod Texts
pub mod Files
