pub mod Drives
pub mod Starts
pub mod Finishes
pub mod Expanding
