pub mod Gets
pub mod Cols
pub mod Kids
pub mod Steps
pub mod Walking
pub mod Worths
pub mod Forced
