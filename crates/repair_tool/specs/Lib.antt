-- What the repair program prints.
pub mod Reported
pub mod Promises
