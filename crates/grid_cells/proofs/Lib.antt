-- Laws of a build: ways through its tests, its index without rows, its steps, and one triangle evaluated.
pub mod Ways
mod Frames
mod Builds
pub mod Examples
