-- The words of the contracts of modules 2 and 9: positions, the four distances, the coordinates of a point in a cell.
pub mod Axes
pub mod Position
pub mod Distances
pub mod Cells
