-- Laws of millimetres. `Laws` has those that callers cite, `Theorems` the claims.
pub mod Between
pub mod Laws
pub mod Theorems
pub mod Examples
-- For the proofs of the code.
pub mod Signed
pub mod Steps
