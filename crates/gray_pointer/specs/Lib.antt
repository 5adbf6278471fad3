pub mod Counters
pub mod Grays
pub mod Leaves
pub mod Registers
pub mod Shapes
pub mod Taken
pub mod Words
pub mod Worklists
