-- What is proved of the promises of public functions.
pub mod Promises
