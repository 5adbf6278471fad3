pub mod Pairs
pub mod Rings
