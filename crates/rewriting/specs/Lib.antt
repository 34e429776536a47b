pub mod Versions
pub mod Records
pub mod Held
pub mod Whole
pub mod Rewrites
