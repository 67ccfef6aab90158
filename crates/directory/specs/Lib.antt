-- The words of a directory of containers: what it is of rows, as it is lent, what a look-up reads, what calls that have one answer and leave, what is claimed of it,
-- and what the functions ask and ensure.
pub mod Entries
pub mod Directory
pub mod Lent
pub mod Left
pub mod Calls
pub mod Claims
pub mod Posts
