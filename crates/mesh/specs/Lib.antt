-- The words of the contracts of a mesh: its points and cells, bounding boxes, and when a cell contains a position.
pub mod Mesh
pub mod Cell
