-- That our service meets the three demands, on what stands in specs/. Every call meets its fate
pub mod Takes
pub mod Calls
-- lists of calls
pub mod Runs
pub mod Rests
pub mod Sent
pub mod Got
pub mod Stays
-- demand 1: what a call may touch, on any bytes; repair
pub mod Bounds
pub mod Mends
pub mod First
-- demands 2 and 3
pub mod Second
pub mod Third
-- any sequence of calls, formats and repairs; demand 1 is enough
pub mod Sequences
pub mod Ours
-- what is shown and predicted knows no sectors
pub mod Forget
