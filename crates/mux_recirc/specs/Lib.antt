pub mod Parts
pub mod Questions
pub mod Shown
pub mod Held
pub mod Blind
pub mod Given
