-- The words of what the inner functions of an insertion into a library that has a directory ask and ensure.
pub mod Posts
