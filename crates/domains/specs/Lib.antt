pub mod Tables
pub mod Ports
pub mod Groups
pub mod Clocks
pub mod Cones
pub mod Nets
pub mod Assignment
pub mod Fit
