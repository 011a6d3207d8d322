pub mod Numbers
pub mod Bytes
pub mod Words
pub mod Ports
pub mod Results
pub mod Interface
pub mod InterfaceExamples
pub mod NumberExamples
