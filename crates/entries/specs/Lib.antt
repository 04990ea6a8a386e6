-- A directory entry as a struct and as its bytes, protections, and what is proved of the promises of public functions.
pub mod Entries
pub mod Promises
pub mod Protections
