-- Laws of the boxes of all cells, and of the walks that measure them.
pub mod Boxes
mod Measures
