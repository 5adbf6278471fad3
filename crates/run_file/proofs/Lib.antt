pub mod Keys
pub mod Places
pub mod Entries
pub mod Tables
pub mod Fitting
pub mod Documents
