pub mod ConstraintFiles
pub mod Described
pub mod Designs
pub mod Refused
pub mod SameConstraints
