-- The words of the contracts of files: what is decided of one, and what is known of one that was read.
pub mod Counts
pub mod Files
pub mod Read
