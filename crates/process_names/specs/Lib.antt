pub mod Forms
pub mod Sets
