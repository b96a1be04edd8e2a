pub mod Joins
pub mod Depths
pub mod Elements
pub mod Cuts
pub mod Texts
pub mod Ways
