pub mod Laws
pub mod Rules
pub mod Takes
pub mod Scopes
