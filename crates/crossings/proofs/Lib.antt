pub mod Ends
pub mod Exact
pub mod Fed
pub mod Feeding
pub mod Lowest
pub mod Made
pub mod Shown
pub mod Walked
