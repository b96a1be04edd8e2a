pub mod Slips
pub mod Words
