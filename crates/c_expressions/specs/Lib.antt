pub mod Gives
pub mod Operands
pub mod Limited
