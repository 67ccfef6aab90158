-- The words of the contracts of module 5: the sheet, its refusals, and the check that a sheet is the one its settings give.
pub mod Sheet
pub mod Steps
-- document 01's sheet S
pub mod Examples
