-- What the demands rule out, and that they ask for something.
-- two services that meet demand 1 are one; two that meet demand 3 do the same
pub mod Single
-- by computing, on a start with three files: a run; the fakes, by demand 1, by 2 and 3, of repair, of power cuts. The empty diskette
pub mod All
pub mod Pair
pub mod Run
pub mod AnyBytes
pub mod Refuted
pub mod Mended
pub mod Sequences
pub mod Cuts
pub mod Nights
pub mod Blank
