pub mod Order
pub mod Pairs
pub mod AllRings
pub mod Known
