-- Laws of a striking with a directory: the entries that are left, the pass that writes them, and what it answers and leaves.
pub mod Entries
pub mod Pass
pub mod Answers
