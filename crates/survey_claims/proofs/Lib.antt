-- Import and export together.
pub mod Bytes
pub mod Marks
pub mod Texts
pub mod Theorems
