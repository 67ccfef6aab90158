-- Laws of listings through a directory.
pub mod Counts
pub mod Answers
