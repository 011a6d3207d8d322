pub mod CompileLaws
pub mod RootTypes
pub mod CodeLaws
pub mod MadeLaws
pub mod DrivenSystems
pub mod DriveLaws
