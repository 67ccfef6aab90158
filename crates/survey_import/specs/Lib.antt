-- The words of the contracts of the import: the marks of a surveyor's text, and what an import answers and leaves.
pub mod Marks
pub mod Import
pub mod Posts
