-- The words of the contracts of cell sizes: which cells are large, and what the others measure.
pub mod Large
pub mod Steps
