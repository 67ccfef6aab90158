-- The words of the contracts of the rows of a cell index.
pub mod Filing
pub mod Keys
pub mod Steps
