-- Theorems on the definitions of specs/.
pub mod Words
pub mod Served
pub mod Runs
pub mod Codes
