pub mod Area
pub mod Copies
pub mod Reversal
pub mod Ring
pub mod Slots
pub mod Writing
