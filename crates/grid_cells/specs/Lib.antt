-- The words of the contracts of module 10's build: the index that it gives.
pub mod Build
pub mod Lent
pub mod Steps
