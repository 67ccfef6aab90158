-- Laws of listings: the places, containers side by side, the walk over the rows, and the answers.
pub mod Places
pub mod Containers
pub mod Walks
pub mod Answers
