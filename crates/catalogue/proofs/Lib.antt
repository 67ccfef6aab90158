-- Laws of the files that the program reads.
pub mod Laws
