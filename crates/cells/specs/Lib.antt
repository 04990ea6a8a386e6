-- What is promised of the leaves.
pub mod Promises
