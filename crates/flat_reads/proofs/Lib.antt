pub mod Cells
pub mod Expressions
pub mod Processes
pub mod Laws
pub mod Pieces
mod Examples
