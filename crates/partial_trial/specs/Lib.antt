pub mod Expansions
pub mod Seeds
