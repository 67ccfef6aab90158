-- Laws of an insertion into a library that has a directory.
pub mod Entered
pub mod Places
pub mod Count
pub mod Directories
pub mod Marks
pub mod Answers
