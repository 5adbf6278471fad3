pub mod Cubes
pub mod Made
pub mod Marks
pub mod Masks
pub mod Order
pub mod Shown
pub mod Walked
