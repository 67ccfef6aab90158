-- The words of the contracts of module 8.
pub mod Place
pub mod Ready
pub mod Listing
pub mod Counted
pub mod Posts
