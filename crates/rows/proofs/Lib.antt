-- Laws of a library: its check, what an insertion gives, and that it leaves a library that passes its check.
pub mod Walks
pub mod Check
pub mod Theorems
pub mod Found
pub mod Kept
pub mod Answers
