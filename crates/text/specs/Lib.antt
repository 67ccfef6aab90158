-- The words of the contracts of text: ASCII, decimal numbers, numbers in a row, and what stands in a lent buffer.
pub mod Text
pub mod Writers
