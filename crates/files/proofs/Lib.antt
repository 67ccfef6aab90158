-- Laws of what is read of files.
pub mod Parts
pub mod Room
