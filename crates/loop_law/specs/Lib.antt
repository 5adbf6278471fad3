pub mod Loops
pub mod Designs
