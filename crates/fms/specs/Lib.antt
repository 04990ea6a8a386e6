-- The call in steps, as the code makes them, and what is promised of it.
pub mod Functions
pub mod Steps
pub mod Promises
