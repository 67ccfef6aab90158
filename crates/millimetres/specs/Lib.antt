-- The words of the contracts of millimetres: whole millimetres, and the floats that they stand for.
pub mod Millimetres
pub mod Claims
pub mod Told
