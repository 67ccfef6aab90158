-- The words of the contract of module 10's search.
pub mod Search
pub mod Steps
