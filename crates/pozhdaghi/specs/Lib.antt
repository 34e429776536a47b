pub mod Asked
pub mod Replaced
pub mod Written
pub mod Tallied
