-- The words of demand 3: calls on a library one after the other, an id's history, near and listed, and what is claimed of them.
pub mod Holdings
pub mod Run
pub mod Histories
pub mod Queries
pub mod Claims
