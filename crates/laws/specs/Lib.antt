pub mod Shelf
pub mod Calls
pub mod Space
pub mod Laws
pub mod History
