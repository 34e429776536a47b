pub mod Slots
