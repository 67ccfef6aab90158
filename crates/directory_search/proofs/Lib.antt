-- Laws of a search through a directory: where a container's rows end, the rows up to there, the place of a container, and each answer.
pub mod Containers
pub mod Fronts
pub mod Places
pub mod Answers
