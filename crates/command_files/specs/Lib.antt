pub mod Statuses
pub mod Files
pub mod Endings
