pub mod FromCLaws
pub mod FunctionLaws
pub mod OneNumber
