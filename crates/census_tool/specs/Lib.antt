-- What the census program prints.
pub mod Decimal
pub mod Lines
pub mod Printed
pub mod Promises
