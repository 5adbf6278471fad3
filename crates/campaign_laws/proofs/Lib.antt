pub mod Records
pub mod Replayed
