pub mod Reading
pub mod Constraints
pub mod Signals
pub mod Unfolded
pub mod Net
pub mod Crossing
pub mod Audited
