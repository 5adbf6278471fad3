pub mod Decimals
pub mod Parts
pub mod Ranges
pub mod Lookups
pub mod Texts
pub mod Clocks
pub mod Visible
pub mod Designs
