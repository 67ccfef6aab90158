-- Laws of rows: numbers entered in order, keys once each, lists written over the front of others, and the walks over all cells.
mod Entered
pub mod Rows
pub mod Corners
pub mod Over
mod Tallies
