pub mod Checks
pub mod Refused
