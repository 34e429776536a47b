pub mod Shadows
pub mod Values
pub mod Replays
pub mod Cases
