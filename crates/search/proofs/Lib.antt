-- Laws of a search: the order of the choice, the walk over a container's rows that finds the nearest, and each answer.
pub mod Order
pub mod Walk
pub mod Answers
pub mod Choice
