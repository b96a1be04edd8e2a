pub mod Standing
pub mod Shelves
