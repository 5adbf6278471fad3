pub mod Audits
pub mod Refused
