pub mod Fitted
pub mod Unread
pub mod Roles
pub mod Named
pub mod Levels
pub mod Described
