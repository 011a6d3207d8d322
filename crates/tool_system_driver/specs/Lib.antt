pub mod Words
pub mod Ports
pub mod Controls
pub mod SystemShapes
pub mod Driving
