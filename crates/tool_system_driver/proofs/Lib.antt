pub mod RowPasses
pub mod PortPasses
pub mod WordSystems
pub mod SystemRows
pub mod ControlTypes
pub mod InputTypes
pub mod DrivenShapes
pub mod FoundInstances
