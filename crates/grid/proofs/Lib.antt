-- Laws of divisions and containers, for the proofs here and in the layers above.
pub mod Keys
pub mod Bounds
pub mod InUse
pub mod Shares
pub mod Flat
