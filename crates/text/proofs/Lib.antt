-- Laws that callers' proofs cite, and examples.
pub mod Laws
pub mod Examples
