pub mod Places
pub mod FitFiles
