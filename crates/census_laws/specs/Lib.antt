-- Laws of the census's definitions, which the proofs of its code cite.
pub mod Limits
pub mod Marks
pub mod Stored
pub mod Walks
pub mod Numbered
pub mod Table
pub mod Whole
pub mod Accepted
