-- Laws of numbers and coordinates in text.
pub mod Digits
pub mod Numbers
pub mod Parts
pub mod Written
pub mod Laws
pub mod Examples
