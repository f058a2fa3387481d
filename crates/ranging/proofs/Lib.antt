pub mod Adding
pub mod Vertices
pub mod Parts
