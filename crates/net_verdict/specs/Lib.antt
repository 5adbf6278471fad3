pub mod Fifos
pub mod Judged
pub mod Verdicts
