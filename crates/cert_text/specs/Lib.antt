pub mod Names
pub mod Read
pub mod Tables
pub mod Texts
pub mod Told
pub mod Words
pub mod Written
