pub mod Steps
pub mod Entered
pub mod Laws
pub mod Values
pub mod PlainNumbers
pub mod WordLists
pub mod Adding
