-- Laws of a striking: the rows of an id taken out, what it answers and leaves, and that this passes the check.
pub mod Removal
pub mod Answers
pub mod Kept
