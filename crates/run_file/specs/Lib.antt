pub mod Values
pub mod Shapes
pub mod Names
pub mod Files
pub mod Numbers
pub mod Tables
