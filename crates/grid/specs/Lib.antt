-- The words of the contracts of modules 3 and 4: divisions and containers.
pub mod Divisions
pub mod Containers
