pub mod Pieces
pub mod Joints
pub mod Small
pub mod Options
pub mod Steps
pub mod Lookups
pub mod Fitting
