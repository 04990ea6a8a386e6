-- The tests before a chain is hung; what is proved of the promise of the public function.
pub mod Hanging
pub mod Promises
