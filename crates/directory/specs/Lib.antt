-- What an iterator over a directory has left, its extent, and what is proved of the promises of public functions.
pub mod Extents
pub mod Walks
pub mod Promises
