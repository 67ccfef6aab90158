-- What is claimed of an index that the build wrote.
pub mod Claims
