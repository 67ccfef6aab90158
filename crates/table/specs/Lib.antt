-- The words of the contracts of the rows: their order, what a store makes of them, the layout in five lists, and what the functions ask and ensure.
pub mod Rows
pub mod Library
pub mod Posts
pub mod Lent
