-- Laws: of sorted lists, which callers cite, of marks sorted by parts, and of the walk that leaves out repeats.
pub mod Ascent
pub mod Counts
pub mod Orders
pub mod Mixes
pub mod Splits
pub mod Distinct
pub mod Marks
