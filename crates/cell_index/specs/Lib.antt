-- The words of the contract of a cell index's check: what is in use of an index that is handed in, and what turns it away.
pub mod Index
pub mod Steps
