-- Theorems on the definitions of specs/.
pub mod Bytes
pub mod Slots
pub mod Surveys
pub mod Facts
pub mod Effects
