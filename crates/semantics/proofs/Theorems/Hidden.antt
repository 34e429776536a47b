pub mod Laws
pub mod All
pub mod Sets
pub mod Holds
pub mod Desks
pub mod Refused
pub mod Lists
