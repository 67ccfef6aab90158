-- Laws of positions, over any number of axes.
pub mod Axes
pub mod NoAxes
pub mod Passed
