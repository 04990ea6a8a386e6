pub mod Ensured
