pub mod Added
mod Lines
pub mod Answered
pub mod Finished
pub mod SameAnswers
