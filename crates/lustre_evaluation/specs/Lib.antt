pub mod Causes
pub mod Results
pub mod Views
