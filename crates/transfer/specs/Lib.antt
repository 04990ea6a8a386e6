-- What the contracts of this crate cite, and what is proved of the promises of its public functions.
pub mod Close
pub mod Promises
