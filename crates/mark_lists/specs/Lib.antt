-- The words of the contracts of mark_lists: marks in lent lists, and what their functions ask and ensure.
pub mod MarkLists
pub mod Posts
pub mod Lent
