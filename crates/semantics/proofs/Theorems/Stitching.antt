pub mod Laws
pub mod Used
