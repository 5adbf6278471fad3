pub mod Finishing
pub mod Chosen
pub mod StartValues
pub mod Visiting
pub mod Flattened
pub mod Freeing
