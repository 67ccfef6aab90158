-- What the C interface adds to the definitions of the calls: an answer as a number and a value that is written, and a sheet in two lists.
pub mod Answers
pub mod Sheets
-- Libraries, listings, and the cell index in two lists.
pub mod Libraries
pub mod Lists
pub mod Cells
pub mod Indexes
-- Point lists of surveyors.
pub mod Surveys
-- Directories of libraries.
pub mod Directories
