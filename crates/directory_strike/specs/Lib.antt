-- The words of what the inner functions of a striking with a directory ask and ensure.
pub mod Posts
