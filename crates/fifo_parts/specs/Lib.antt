pub mod Brought
pub mod Comparisons
pub mod Sides
pub mod Tellers
pub mod Words
