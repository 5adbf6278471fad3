pub mod Clocked
pub mod Designs
pub mod Pinned
pub mod Laws
