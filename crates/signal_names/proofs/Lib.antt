pub mod Cuts
pub mod Named
pub mod Words
pub mod Visits
pub mod Sources
