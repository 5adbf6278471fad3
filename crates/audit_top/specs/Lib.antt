pub mod Pages
pub mod Answers
pub mod Runs
