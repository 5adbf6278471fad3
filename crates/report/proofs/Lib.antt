pub mod Copied
pub mod Lines
pub mod Patterns
pub mod Search
pub mod Tokens
