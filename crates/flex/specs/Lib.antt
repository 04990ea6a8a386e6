-- What each exported entry promises, and that no second outcome fits.
pub mod Promised
pub mod Promises
