pub mod Noting
pub mod Looks
pub mod Signs
pub mod Pieces
pub mod Selects
pub mod Designs
