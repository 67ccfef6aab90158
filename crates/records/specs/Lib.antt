-- The words of the contracts of file records: numbers, floats and records in bytes.
pub mod Records
