-- What the program `survey` prints, by what standard input holds.
pub mod Surveyed
pub mod Posts
