pub mod Leads
pub mod Links
pub mod Orders
pub mod Walks
