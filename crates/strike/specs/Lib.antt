-- The words of the contract of a striking, and of what its inner functions ask and ensure.
pub mod Strike
pub mod Posts
