pub mod Faults
pub mod Findings
pub mod Greedy
pub mod Names
pub mod Search
pub mod VerdictJson
pub mod VerdictText
pub mod Waived
