pub mod Routes
pub mod Filings
pub mod Extractions
pub mod Reps
