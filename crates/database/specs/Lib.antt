pub mod Checks
pub mod Filing
pub mod Fresh
pub mod Parts
pub mod Records
