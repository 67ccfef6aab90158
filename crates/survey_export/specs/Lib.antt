-- The words of the contracts of the export: the text of marks, and what an export answers and leaves.
pub mod Export
pub mod Posts
pub mod Told
