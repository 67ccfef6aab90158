-- Laws of lines.
pub mod Pieces
pub mod Yields
pub mod LineLaws
pub mod Examples
