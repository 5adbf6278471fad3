pub mod Statements
pub mod Masks
pub mod Latches
