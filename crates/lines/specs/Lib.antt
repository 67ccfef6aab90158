-- The words of the contracts of lines: a text cut at a byte, and its lines.
pub mod Pieces
pub mod Lines
pub mod Left
pub mod Posts
