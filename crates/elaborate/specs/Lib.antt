pub mod Counted
pub mod Counts
pub mod Grown
pub mod Limits
pub mod Lowered
pub mod NetTrees
pub mod Refusals
pub mod Words
