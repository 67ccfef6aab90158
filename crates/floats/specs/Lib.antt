-- The words of the contracts of module 1: rounded arithmetic, root, truncation, rounding up, and tests of a float.
pub mod Rounded
pub mod Tests
pub mod Sqrt
pub mod Ceil
pub mod Posts
