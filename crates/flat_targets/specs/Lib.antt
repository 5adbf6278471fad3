pub mod Aims
pub mod Parts
pub mod Pieces
