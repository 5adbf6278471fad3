pub mod Aimed
pub mod AimedParts
pub mod AimedWords
pub mod Reading
pub mod Shared
pub mod PieceRules
