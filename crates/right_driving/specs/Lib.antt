pub mod Found
pub mod FoundExamples
pub mod DrivenSystems
pub mod DrivenMachines
