-- Laws of what the program prints, and examples.
pub mod Extremes
pub mod Texts
pub mod Examples
