pub mod Nets
pub mod Finding
pub mod Shown
pub mod Designs
