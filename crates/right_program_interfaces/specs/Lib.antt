pub mod Shapes
pub mod Faces
