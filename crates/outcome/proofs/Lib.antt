-- Laws of what is printed, and examples.
pub mod Texts
pub mod Reading
pub mod Examples
