pub mod Written
pub mod PathWords
