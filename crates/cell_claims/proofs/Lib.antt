-- Proofs of the claims about an index that the build wrote.
pub mod Bounds
pub mod Grown
pub mod Boxes
pub mod Filed
pub mod Frames
pub mod Accepted
pub mod Theorems
