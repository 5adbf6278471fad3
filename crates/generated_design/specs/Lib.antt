pub mod Pieces
pub mod Channels
pub mod Clocks
