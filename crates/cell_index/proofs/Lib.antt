-- Laws of the check of an index: rows and numbers in one walk, each way through it, and what it leaves.
pub mod Linked
mod Later
pub mod Sound
