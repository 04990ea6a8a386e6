-- What is promised of the census as bytes.
pub mod Promises
