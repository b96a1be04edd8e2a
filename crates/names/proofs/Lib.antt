pub mod Lowests
pub mod Fields
pub mod Seats
