pub mod ParsedText
pub mod Parts
pub mod GivesProgram
pub mod FileParts
