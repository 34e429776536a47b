pub mod Laws
pub mod NoFreeBytes
pub mod Reading
pub mod Former
