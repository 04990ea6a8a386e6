-- What is proved of the promise of the public function.
pub mod Promises
