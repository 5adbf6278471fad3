pub mod Digits
pub mod ByBit
pub mod Going
pub mod Lines
