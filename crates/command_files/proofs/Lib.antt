pub mod ReadInTurn
pub mod Ended
