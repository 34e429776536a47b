-- The bound that the contracts of printing programs name, and the lines that they print.
pub mod Areas
pub mod Lines
