pub mod Campaigns
pub mod Refused
