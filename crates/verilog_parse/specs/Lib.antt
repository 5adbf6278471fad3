pub mod Forms
pub mod Refusals
pub mod Printed
pub mod Pieces
pub mod Texts
pub mod Written
pub mod ReadBack
