-- Laws of the text of a library, and examples.
pub mod Kept
pub mod Runs
pub mod Texts
pub mod Bounds
pub mod Walks
pub mod Picks
pub mod Cuts
pub mod Answers
pub mod Examples
