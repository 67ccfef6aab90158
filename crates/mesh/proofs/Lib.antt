-- Laws of meshes.
pub mod Whole
mod Boxes
