-- Parts of the rules of functions, which functions of the code have for their promises; what is proved of public promises.
pub mod Parts
pub mod Promises
