pub mod Reading
pub mod Cover
pub mod Walks
pub mod Elements
pub mod Ahead
pub mod Ranges
