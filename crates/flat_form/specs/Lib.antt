pub mod View
pub mod Sizes
pub mod Operators
pub mod Whole
pub mod Copies
pub mod Masks
pub mod Uses
