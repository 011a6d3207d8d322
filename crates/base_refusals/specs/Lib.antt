pub mod Refusals
pub mod FirstRefusal
pub mod Order
pub mod RefusalExamples
