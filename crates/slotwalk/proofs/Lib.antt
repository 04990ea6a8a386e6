-- What the proofs of the passes share.
pub mod Laws
