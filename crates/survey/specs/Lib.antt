-- The words of the program's contracts.
pub mod Printed
