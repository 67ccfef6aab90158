-- The words of the contracts of module 6: when a library is damaged, what its check tells, and what an insertion answers and leaves.
pub mod Damage
pub mod Check
pub mod Claims
pub mod Turn
pub mod Insert
pub mod Posts
