-- Laws of loading.
pub mod Chunks
pub mod InOrder
pub mod Marks
pub mod Sheets
