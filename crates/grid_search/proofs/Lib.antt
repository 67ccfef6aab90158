-- Laws of the sheet, for the proofs here and in the layers above.
pub mod InForce
pub mod Laws
pub mod Sizes
pub mod OfSettings
pub mod Good
pub mod Remade
pub mod Examples
pub mod Corners
pub mod Parts
