-- Laws of a search: the walk over cells, the cells of a container, each answer, and the index of one triangle evaluated.
pub mod Walk
pub mod Container
pub mod Answers
mod Examples
