pub mod CallNames
pub mod NamesOfTick
pub mod EquationLaws
pub mod RunLaws
pub mod ChildLaws
pub mod SystemLaws
