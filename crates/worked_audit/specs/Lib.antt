pub mod Texts
pub mod Modules
pub mod Design
pub mod Laws
