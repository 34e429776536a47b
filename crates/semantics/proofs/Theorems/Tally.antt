pub mod Rules
pub mod Desks
pub mod Refused
