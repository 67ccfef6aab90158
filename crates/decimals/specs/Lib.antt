-- The words of the contracts of decimals: numbers and coordinates as surveyors write them.
pub mod Decimals
pub mod Posts
