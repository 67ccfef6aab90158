-- The words of the contract of the text of a library.
pub mod Display
pub mod Posts
pub mod Contents
