-- The words of the contracts of sorting.
pub mod Sorted
pub mod Ascent
pub mod Posts
