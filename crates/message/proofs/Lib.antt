-- The laws of this crate's proof.
pub mod Laws
