-- A part of a function's rule, which a function of the code has for its promise; what is proved of public promises.
pub mod Parts
pub mod Promises
