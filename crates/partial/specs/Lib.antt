pub mod Rounds
pub mod Replacements
