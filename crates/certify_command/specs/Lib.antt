pub mod Certifies
pub mod Refused
