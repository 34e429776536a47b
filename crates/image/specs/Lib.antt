pub mod Index
pub mod Filling
pub mod Reached
pub mod Records
pub mod Versions
