pub mod Activities
pub mod Layers
pub mod Dispatch
