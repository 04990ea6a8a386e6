-- A power cut costs no file, on what stands in specs/.
-- the stores of every call, in order, and what is left where they are cut short
pub mod Harms
pub mod Calls
pub mod Shorts
-- what repair makes of an image that has what matters
pub mod Stands
pub mod Intact
-- what repair makes of an image whose directory has grown
pub mod Grown
pub mod Regrown
-- one night, and many
pub mod Theorem
