pub mod Items
pub mod Links
pub mod Looks
pub mod Trials
