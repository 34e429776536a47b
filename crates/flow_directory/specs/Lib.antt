pub mod Sums
pub mod Keys
pub mod Ends
pub mod Flows
