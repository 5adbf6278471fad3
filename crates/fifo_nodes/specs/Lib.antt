pub mod Codes
pub mod Counts
pub mod Nodes
pub mod Searches
pub mod Shows
pub mod Takes
pub mod Terms
