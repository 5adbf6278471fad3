pub mod Forms
pub mod Halts
pub mod Next
pub mod Selected
