-- Laws: a difference from a radius keeps the order, and what a square so tells.
pub mod Less
pub mod Tellings
