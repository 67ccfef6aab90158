-- Laws of the import.
pub mod Reading
pub mod Walk
pub mod Stored
pub mod Answers
pub mod Examples
