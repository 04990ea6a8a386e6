-- The theorem at the top; its statement `Archive` stands in specs/.
pub mod Theorem
