pub mod Counted
pub mod Reading
pub mod Trials
pub mod Marked
pub mod Sharing
pub mod Assigned
