pub mod Trees
pub mod Ways
pub mod Walks
pub mod Undelayed
