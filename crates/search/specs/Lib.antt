-- The words of the contract of module 7.
pub mod Search
pub mod Posts
