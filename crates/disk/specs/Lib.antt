-- What the code loads from an image, as structs, and what is proved of the promises of public functions.
pub mod Loaded
pub mod Shapes
pub mod Promises
