pub mod Hosting
pub mod Ensured
