-- What the contracts of a program that reads stored answers cite.
pub mod Figures
pub mod Kinds
