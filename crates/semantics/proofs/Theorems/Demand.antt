pub mod Laws
pub mod Rules
pub mod Aliases
pub mod Filled
