pub mod Laws
pub mod Moved
