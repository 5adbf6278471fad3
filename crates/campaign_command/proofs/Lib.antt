pub mod Calm
pub mod Campaigns
pub mod Clean
