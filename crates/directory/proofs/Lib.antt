-- Laws of a directory.
pub mod Entries
pub mod Fewer
pub mod Runs
pub mod Match
pub mod Looks
pub mod Passing
pub mod Filing
pub mod Kept
pub mod Writes
pub mod Builds
pub mod Meaning
pub mod Theorems
