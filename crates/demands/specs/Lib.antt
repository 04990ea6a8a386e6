-- The three demands, as predicates over services: definitions alone.
pub mod Ledger
pub mod Diskette
pub mod Service
pub mod History
pub mod Demands
pub mod Repairs
pub mod Sequences
pub mod Cuts
pub mod Fakes
