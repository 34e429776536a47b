pub mod Laws
pub mod Unbounded
pub mod Counted
