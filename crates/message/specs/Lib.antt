-- What is proved of the promise of the public function of this crate.
pub mod Promises
