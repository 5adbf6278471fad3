pub mod Counts
pub mod Selftests
