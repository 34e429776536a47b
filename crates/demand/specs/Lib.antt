pub mod Filings
pub mod Agreement
