pub mod Laid
pub mod Outcomes
pub mod SlotLaws
