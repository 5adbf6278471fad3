pub mod Sides
pub mod Tests
pub mod Words
pub mod Ways
pub mod Fifos
pub mod Keeps
pub mod Order
pub mod Laws
