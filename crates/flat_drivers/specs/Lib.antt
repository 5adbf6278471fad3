pub mod Driving
pub mod Registers
pub mod Clocked
pub mod Driven
