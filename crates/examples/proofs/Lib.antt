-- The examples, evaluated.
pub mod Stated
