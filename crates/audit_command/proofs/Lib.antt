pub mod Audits
pub mod FifoNext
pub mod FifoOrder
pub mod Refused
