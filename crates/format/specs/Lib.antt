-- A volume, and what is proved of the promise of this crate's public function.
pub mod Promises
pub mod Volumes
