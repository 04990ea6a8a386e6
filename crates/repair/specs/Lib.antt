-- Repair as the code makes it, that this is repair of rules, and what is proved of the promise of this crate's public function.
pub mod Passes
pub mod Whole
pub mod Promises
