pub mod Laws
pub mod Statistics
pub mod Waiting
pub mod Filing
pub mod Whole
pub mod Compacted
pub mod Refused
