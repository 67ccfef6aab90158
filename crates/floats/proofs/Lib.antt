-- Laws of module 1. `Laws` has those that are promised, in one place.
pub mod Order
pub mod Held
pub mod Unique
pub mod Choice
pub mod Upto
pub mod Near
pub mod Exact
pub mod Roots
pub mod Nearer
pub mod Whole
pub mod Least
pub mod Product
pub mod Laws
pub mod Reading
pub mod Limit
pub mod Examples
-- For the proofs of the code.
pub mod Steps
pub mod Patterns
pub mod Cases
pub mod Squares
pub mod Values
pub mod Choices
