pub mod Index
pub mod Links
pub mod References
pub mod Checks
