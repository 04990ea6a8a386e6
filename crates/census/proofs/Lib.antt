-- What the proofs of the census share.
pub mod Laws
