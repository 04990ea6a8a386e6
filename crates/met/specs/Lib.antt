-- That our service meets the three demands; the theorems stand in proofs/. Demand 1: what a call may touch, on any bytes; blank diskettes
pub mod Bounds
pub mod Tames
pub mod Blanks
-- image and table agree with a ledger, and are then what it says
pub mod Relation
pub mod Quiet
pub mod Meets
pub mod Searches
pub mod Unused
pub mod Sectors
pub mod Marks
pub mod Picture
-- every call meets its fate
pub mod Reads
pub mod Frees
pub mod Fills
pub mod Takes
pub mod Opens
pub mod Grown
pub mod Grows
pub mod Removes
pub mod Lists
-- what calls leave; the census and the ledger; lists of calls
pub mod Joins
pub mod Tidy
pub mod Changes
pub mod Survey
pub mod Forms
-- demand 2
pub mod Second
