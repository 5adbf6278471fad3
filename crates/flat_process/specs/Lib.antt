pub mod Assigns
pub mod Starts
pub mod Resets
pub mod Processes
pub mod Kept
