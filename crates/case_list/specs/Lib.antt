-- The bounds that the contracts of the programs name, the numbers that they read, and the lines that they print.
pub mod Bounds
pub mod Kinds
pub mod Lines
pub mod Numbers
