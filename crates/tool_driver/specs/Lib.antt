pub mod Shapes
pub mod Counts
pub mod States
pub mod Drivable
pub mod Judging
pub mod Calling
pub mod Driven
pub mod Laws
