pub mod Refusals
pub mod Values
pub mod Entries
pub mod Names
pub mod Files
pub mod Fit
