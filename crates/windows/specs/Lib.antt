-- The words of the contracts of windows.
pub mod Window
